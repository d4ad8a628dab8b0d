use Rattle.std.proofs.Common.{◌≡◌, [], ◌∷◌, List, Result, Ok, Err}
use Rattle.std.specs.Prelude.{IfOk}
use Rattle.profile_model.specs.Sums.{Sample}
use Rattle.profile_model.specs.declared.profile.Profile.{Profile}
use Rattle.ingest.specs.Ingests.{IsStackProfile}
use Rattle.ingest.specs.declared.form.Form.{Form}
use Rattle.ingest.proofs.body.stack_profile.Goals as goal

alone : {E : Type 0} (form : Form) (sums : List Sample) (profile : Profile) → IsStackProfile form sums profile
    → (result : Result (List Profile) E) → IfOk result (λ profiles. profiles ≡ profile ∷ [])
    → IfOk result (λ profiles. (one : Profile) × IsStackProfile form sums one × (profiles ≡ one ∷ []))
alone form sums profile stack (Ok profiles) is = (profile, stack, is)
alone form sums profile stack (Err error) is = tt

pub returns : goal.returns
returns c = alone c.args.form c.args.values c.in_ok-profile.profile c.in_ok-profile.ensures c.one.result c.one.ensures
