-- The limits of what a profile is made of.
use Rattle.std.specs.Prelude.{ℕ, ◌^◌}

-- how many frames a stack may have
abbrev pub most_frames : ℕ
most_frames = 1024

-- how many bytes a frame's name may have
abbrev pub most_frame_bytes : ℕ
most_frame_bytes = 65535

-- how many labels a request may give a profile
abbrev pub most_labels : ℕ
most_labels = 30

-- how many labels a profile may have: those of a request, and the service's name where it is added to them
abbrev pub most_profile_labels : ℕ
most_profile_labels = 31

-- how many bytes a label's name may have
abbrev pub most_name_bytes : ℕ
most_name_bytes = 1024

-- how many bytes a label's value may have
abbrev pub most_value_bytes : ℕ
most_value_bytes = 2048

-- how many bytes a tenant's name may have
abbrev pub most_tenant_bytes : ℕ
most_tenant_bytes = 150

-- how many profiles a push may have
abbrev pub most_profiles : ℕ
most_profiles = 4096

-- what a push may weigh
abbrev pub most_weight : ℕ
most_weight = 268435456

-- what all values of a tenant together stay below
abbrev pub total_bound : ℕ
total_bound = 2 ^ 63
