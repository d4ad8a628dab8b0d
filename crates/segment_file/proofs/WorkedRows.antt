-- The definitions, worked out on small objects.
use Rattle.std.proofs.Common.{◌≡◌, ℕ, false, inl, inr, None, Some, List, [], ◌∷◌, ◌++◌, length, take, drop, refl, arith}
use Rattle.std.proofs.lemmas.List.Elements.{All-cons, All-nil}
use Rattle.std.specs.Prelude.{codes}
use Rattle.std.specs.Str.{is_utf8, chars}
use Rattle.std.proofs.Math.Utf8.{encode}
use Rattle.profile_model.specs.LabelSets.{Label, AreProfileLabels, IsLabel}
use Rattle.profile_model.specs.Sums.{Sample}
use Rattle.profile_model.specs.declared.kind.ProfileType.{ProfileType}
use Rattle.profile_model.specs.declared.profile.Profile.{Profile}
use Rattle.profile_model.specs.declared.push.Push.{Push}
use Rattle.segment_file.specs.declared.fault.ObjectRule.TheVariants.{Content, Form}
use Rattle.segment_file.specs.Decoded.{IsBroken}
use Rattle.segment_file.specs.Fields.{number, spelled, text_of}
use Rattle.segment_file.specs.Files.{File, FilePush, file_fields, mark_field, mark_of_objects}
use Rattle.segment_file.specs.Objects.{spelling_of}
use Rattle.segment_file.specs.Parts.{part_of}

-- a push without profiles
abbrev pub empty_push : List ℕ → Push
empty_push tenant = record { tenant = tenant; profiles = [] }

pub an_empty_push : spelling_of 0 (empty_push (codes "t1") ∷ []) ≡
    80 ∷ 89 ∷ 79 ∷ 48
    ∷ 0 ∷ 0 ∷ 0 ∷ 0 ∷ 0 ∷ 0 ∷ 0 ∷ 0
    ∷ 0 ∷ 0 ∷ 0 ∷ 0 ∷ 0 ∷ 0 ∷ 0 ∷ 1
    ∷ 0 ∷ 0 ∷ 0 ∷ 2 ∷ 116 ∷ 49
    ∷ 0 ∷ 0 ∷ 0 ∷ 0 ∷ []
an_empty_push = refl

pub length-an_empty_push : length (spelling_of 0 (empty_push (codes "t1") ∷ [])) ≡ 30
length-an_empty_push = refl

abbrev pub cpu : ProfileType
cpu = record {
  name = codes "cpu";
  sample_type = codes "samples";
  sample_unit = codes "count";
  period_type = [];
  period_unit = [];
  parts = (refl, refl, refl, refl, refl);
}

abbrev pub profile : (labels : List Label) → AreProfileLabels labels → ℕ → List Sample → Profile
profile labels known ms values = record { labels = labels; kind = cpu; time_ms = ms; values = values; labelled = known }

abbrev pub service : List Label
service = (codes "service_name", codes "web") ∷ []

pub none_known : AreProfileLabels []
none_known = record { few = omega arith; each = All-nil IsLabel }

service_known : AreProfileLabels service
service_known = record {
  few = omega arith;
  each = All-cons IsLabel _ [] (record { name = refl; value = (omega arith, omega arith) }) (All-nil IsLabel);
}

-- two tenants' pushes of a profile with one stack each
abbrev pub two_pushes : AreProfileLabels [] → AreProfileLabels service → List Push
two_pushes none some =
    record { tenant = codes "t1"; profiles = profile [] none 1000 ((codes "main" ∷ [], 3) ∷ []) ∷ [] }
    ∷ record { tenant = codes "t2"; profiles = profile service some 2000 ((codes "main" ∷ codes "leaf" ∷ [], 258) ∷ []) ∷ [] }
    ∷ []

pub two_tenants : (none : AreProfileLabels []) (some : AreProfileLabels service) → spelling_of 5 (two_pushes none some) ≡
    80 ∷ 89 ∷ 79 ∷ 48 ∷ 0 ∷ 0 ∷ 0 ∷ 0 ∷ 0 ∷ 0 ∷ 0 ∷ 5 ∷ 0 ∷ 0 ∷ 0 ∷ 0
    ∷ 0 ∷ 0 ∷ 0 ∷ 7 ∷ 0 ∷ 0 ∷ 0 ∷ 2 ∷ 116 ∷ 49 ∷ 0 ∷ 0 ∷ 0 ∷ 1 ∷ 0 ∷ 0
    ∷ 0 ∷ 0 ∷ 0 ∷ 0 ∷ 0 ∷ 3 ∷ 99 ∷ 112 ∷ 117 ∷ 0 ∷ 0 ∷ 0 ∷ 7 ∷ 115 ∷ 97 ∷ 109
    ∷ 112 ∷ 108 ∷ 101 ∷ 115 ∷ 0 ∷ 0 ∷ 0 ∷ 5 ∷ 99 ∷ 111 ∷ 117 ∷ 110 ∷ 116 ∷ 0 ∷ 0 ∷ 0
    ∷ 0 ∷ 0 ∷ 0 ∷ 0 ∷ 0 ∷ 0 ∷ 0 ∷ 0 ∷ 0 ∷ 0 ∷ 0 ∷ 3 ∷ 232 ∷ 0 ∷ 0 ∷ 0
    ∷ 1 ∷ 0 ∷ 0 ∷ 0 ∷ 1 ∷ 0 ∷ 0 ∷ 0 ∷ 4 ∷ 109 ∷ 97 ∷ 105 ∷ 110 ∷ 0 ∷ 0 ∷ 0
    ∷ 0 ∷ 0 ∷ 0 ∷ 0 ∷ 3 ∷ 0 ∷ 0 ∷ 0 ∷ 2 ∷ 116 ∷ 50 ∷ 0 ∷ 0 ∷ 0 ∷ 1 ∷ 0
    ∷ 0 ∷ 0 ∷ 1 ∷ 0 ∷ 0 ∷ 0 ∷ 12 ∷ 115 ∷ 101 ∷ 114 ∷ 118 ∷ 105 ∷ 99 ∷ 101 ∷ 95 ∷ 110
    ∷ 97 ∷ 109 ∷ 101 ∷ 0 ∷ 0 ∷ 0 ∷ 3 ∷ 119 ∷ 101 ∷ 98 ∷ 0 ∷ 0 ∷ 0 ∷ 3 ∷ 99 ∷ 112
    ∷ 117 ∷ 0 ∷ 0 ∷ 0 ∷ 7 ∷ 115 ∷ 97 ∷ 109 ∷ 112 ∷ 108 ∷ 101 ∷ 115 ∷ 0 ∷ 0 ∷ 0 ∷ 5
    ∷ 99 ∷ 111 ∷ 117 ∷ 110 ∷ 116 ∷ 0 ∷ 0 ∷ 0 ∷ 0 ∷ 0 ∷ 0 ∷ 0 ∷ 0 ∷ 0 ∷ 0 ∷ 0
    ∷ 0 ∷ 0 ∷ 0 ∷ 7 ∷ 208 ∷ 0 ∷ 0 ∷ 0 ∷ 1 ∷ 0 ∷ 0 ∷ 0 ∷ 2 ∷ 0 ∷ 0 ∷ 0
    ∷ 4 ∷ 109 ∷ 97 ∷ 105 ∷ 110 ∷ 0 ∷ 0 ∷ 0 ∷ 4 ∷ 108 ∷ 101 ∷ 97 ∷ 102 ∷ 0 ∷ 0 ∷ 0
    ∷ 0 ∷ 0 ∷ 0 ∷ 1 ∷ 2 ∷ []
two_tenants none some = refl

-- ---- faults

-- the file of one push
abbrev file_by : List ℕ → ℕ → ℕ → FilePush → File
file_by mark lo hi push = record { mark = mark; lo = lo; hi = hi; pushes = push ∷ [] }

abbrev bytes_by : List ℕ → ℕ → ℕ → FilePush → List ℕ
bytes_by mark lo hi push = spelled (file_fields (file_by mark lo hi push))

abbrev no_profiles : List ℕ → FilePush
no_profiles tenant = record { tenant = tenant; profiles = [] }

-- another mark
pub another_mark : IsBroken (bytes_by (codes "PYO1") 0 1 (no_profiles (codes "t1"))) Form 0
another_mark = inl (record {
  field = mark_field (codes "PYO1");
  more = spelled (drop 1 (file_fields (file_by (codes "PYO1") 0 1 (no_profiles (codes "t1")))));
  reaches = record {
    file = file_by (codes "PYO1") 0 1 (no_profiles (codes "t1"));
    shape = record { count = refl; fit = refl };
    before = [];
    behind = drop 1 (file_fields (file_by (codes "PYO1") 0 1 (no_profiles (codes "t1"))));
    fields = refl;
    sound = refl;
    bytes_are = refl;
    place = refl;
  };
  wrong = refl;
})

-- the last byte is missing
pub a_byte_is_missing : IsBroken (take 29 (spelling_of 0 (empty_push (codes "t1") ∷ []))) Form 29
unfolding is_utf8 chars encode
a_byte_is_missing = inr (
  refl,
  inl (
    record {
      field = number 4 0 None;
      begun = 0 ∷ 0 ∷ 0 ∷ [];
      missing = 0 ∷ [];
      from = 26;
      reaches = record {
        file = file_by mark_of_objects 0 1 (no_profiles (codes "t1"));
        shape = record { count = refl; fit = refl };
        before = take 4 (file_fields (file_by mark_of_objects 0 1 (no_profiles (codes "t1"))));
        behind = [];
        fields = refl;
        sound = refl;
        bytes_are = refl;
        place = refl;
      };
      part = refl;
      some = λ is. absurd cc;
    },
    refl,
  ),
)

-- a byte is left over
pub a_byte_is_left : IsBroken (spelling_of 0 (empty_push (codes "t1") ∷ []) ++ 7 ∷ []) Form 30
unfolding is_utf8 chars encode
a_byte_is_left = inr (
  refl,
  inr (record {
    file = file_by mark_of_objects 0 1 (no_profiles (codes "t1"));
    shape = record { count = refl; fit = refl };
    sound = refl;
    more = 7 ∷ [];
    bytes_are = refl;
    some = λ is. absurd cc;
    place = refl;
  }),
)

-- no tenant is called `..`
pub a_wrong_tenant : IsBroken (bytes_by mark_of_objects 0 1 (no_profiles (codes ".."))) Content 20
unfolding is_utf8 chars encode
a_wrong_tenant = inl (record {
  field = text_of (codes "..") false;
  more = 0 ∷ 0 ∷ 0 ∷ 0 ∷ [];
  reaches = record {
    file = file_by mark_of_objects 0 1 (no_profiles (codes ".."));
    shape = record { count = refl; fit = refl };
    before = take 3 (file_fields (file_by mark_of_objects 0 1 (no_profiles (codes ".."))));
    behind = drop 4 (file_fields (file_by mark_of_objects 0 1 (no_profiles (codes ".."))));
    fields = refl;
    sound = refl;
    bytes_are = refl;
    place = refl;
  };
  wrong = refl;
})

-- one profile without labels, whose second stack isn't above the first
abbrev two_stacks : FilePush
two_stacks = record {
  tenant = codes "t1";
  profiles = record {
    labels = [];
    name = [];
    sample_type = [];
    sample_unit = [];
    period_type = [];
    period_unit = [];
    time_ms = 0;
    values = (codes "main" ∷ [], 1) ∷ (codes "a" ∷ codes "b" ∷ [], 1) ∷ [];
  } ∷ [];
}

-- the place is that of the second stack's last frame
pub a_lower_stack : IsBroken (bytes_by mark_of_objects 0 1 two_stacks) Content 95
unfolding is_utf8 chars encode
a_lower_stack = inl (record {
  field = text_of (codes "b") false;
  more = 0 ∷ 0 ∷ 0 ∷ 0 ∷ 0 ∷ 0 ∷ 0 ∷ 1 ∷ [];
  reaches = record {
    file = file_by mark_of_objects 0 1 two_stacks;
    shape = record { count = refl; fit = refl };
    before = take 18 (file_fields (file_by mark_of_objects 0 1 two_stacks));
    behind = drop 19 (file_fields (file_by mark_of_objects 0 1 two_stacks));
    fields = refl;
    sound = refl;
    bytes_are = refl;
    place = refl;
  };
  wrong = refl;
})

-- no push: the second number isn't above the first
abbrev no_pushes : File
no_pushes = record { mark = mark_of_objects; lo = 1; hi = 1; pushes = [] }

pub no_push_at_all : IsBroken (spelled (file_fields no_pushes)) Form 12
no_push_at_all = inl (record {
  field = number 8 1 (Some Form);
  more = [];
  reaches = record {
    file = no_pushes;
    shape = record { count = refl; fit = refl };
    before = take 2 (file_fields no_pushes);
    behind = [];
    fields = refl;
    sound = refl;
    bytes_are = refl;
    place = refl;
  };
  wrong = refl;
})

-- ---- parts

abbrev one_profile : List ℕ → ℕ → Push
one_profile tenant ms = record { tenant = tenant; profiles = profile [] none_known ms [] ∷ profile [] none_known 9 [] ∷ [] }

-- of three pushes from number 5 on, the tenant's profiles of the second and third whose time is 9
pub rows_of_a_tenant : part_of 5 (one_profile (codes "a") 9 ∷ one_profile (codes "b") 9 ∷ one_profile (codes "a") 7 ∷ []) 6 8
    (record { tenant = codes "a"; from_ms = 8; until_ms = 9 })
    ≡ record { from = 6; until = 8; rows = record { push = 7; place = 1; profile = profile [] none_known 9 [] } ∷ [] }
rows_of_a_tenant = refl
