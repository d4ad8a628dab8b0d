-- That the samples of a message without a fault have stacks.
use Rattle.std.proofs.Common.{◌≡◌, ℕ, zero, suc, ◌+◌, ◌-◌, ◌/◌, ◌%◌, ◌<◌, ◌≤◌, List, [], ◌∷◌, ◌++◌, length, get_or, take, Bool, true, false, cond, Option, Some, None, refl, sym, subst, arith, lit<, lit≤}
use Rattle.std.specs.Prelude.{◌==◌, nat_lt, map, reverse, is_some, option_map, unwrap_or, find, codes, if◌then◌else◌}
use Rattle.std.specs.List.{All, flat_map, list_all, enumerate_from}
use Rattle.std.specs.Option.{IfSome}
use Rattle.std.specs.Fmt.{digits, digits_onto, digit_glyph}
use Rattle.std.proofs.lemmas.Bool.{ltb-false, not-false, true≢false, and_parts}
use Rattle.std.proofs.lemmas.List.{length-append, length-reverse, get_or-reverse}
use Rattle.std.proofs.lemmas.List.Elements.{All-nil, All-cons, All-head, All-tail, All-append}
use Rattle.profile_model.specs.Stacks.{IsFrame, IsStack}
use Rattle.pprof_message.specs.declared.lists.Function.{Function}
use Rattle.pprof_message.specs.Pprof.{Sample, Location, Pprof}
use Rattle.pprof_codec.specs.declared.fault.PprofFault.{PprofFault}
use Rattle.pprof_codec.specs.Members.{function_with, location_with, text_at}
use Rattle.pprof_codec.specs.Frames.{unknown_frame, filled_or, function_frame, line_frame, address_frame, frames_of, location_frames, frames_at, root_first, stack_of}
use Rattle.pprof_codec.specs.Checks.{fault_if, faults_of_each, faults_of_function, faults_of_sample, function_faults, sample_faults}

-- ---- lists of faults without a fault

pub no-parts : (xs ys : List PprofFault) → xs ++ ys ≡ [] → (xs ≡ []) × (ys ≡ [])
no-parts [] ys h = (refl, h)
no-parts (x ∷ xs) ys h = cc

pub not_found : (found : Bool) (fault : PprofFault) → fault_if found fault ≡ [] → found ≡ false
not_found false fault h = refl
not_found true fault h = cc

module _ {X : Type 0} (faults : ℕ → X → List PprofFault) where
  none_from : (n : ℕ) (xs : List X) (i : ℕ) (d : X) → i < length xs → flat_map (λ one. faults one.0 one.1) (enumerate_from n xs) ≡ []
      → faults (n + i) (get_or xs i d) ≡ []
  none_from n [] i d short h = absurd (omega arith)
  none_from n (x ∷ xs) zero d short h =
      let e : n + 0 ≡ n = omega arith in rw e ((no-parts (faults n x) _ h).0)
  none_from n (x ∷ xs) (suc i) d short h =
      let e : n + suc i ≡ n + 1 + i = omega arith in
      rw e (none_from (n + 1) xs i d (omega arith) ((no-parts (faults n x) _ h).1))

  -- no member has a fault
  pub each-none : (xs : List X) (i : ℕ) (d : X) → i < length xs → faults_of_each faults xs ≡ [] → faults i (get_or xs i d) ≡ []
  each-none xs i d short h = let e : 0 + i ≡ i = omega arith in subst (λ k. faults k (get_or xs i d) ≡ []) e (none_from 0 xs i d short h)

-- ---- frames

found-All : {X : Type 0} (P : X → Type 0) (p : X → Bool) (xs : List X) → All P xs → IfSome (find p xs) P
found-All P p [] all = tt
found-All P p (x ∷ xs) all = by (p x) (found-All P p xs (All-tail P x xs all))
  where
    by : (b : Bool) → IfSome (find p xs) P → IfSome (cond b (Some x) (find p xs)) P
    by true later = All-head P x xs all
    by false later = later

pub unknown-IsFrame : IsFrame unknown_frame
unknown-IsFrame = (lit< tt, lit≤ tt)

filled-some : (text other : List ℕ) → 0 < length other → 0 < length (filled_or text other)
filled-some [] other some = some
filled-some (b ∷ bs) other some = omega arith

pub function_frame-some : (texts : List (List ℕ)) (function : Function) → 0 < length (function_frame texts function)
unfolding function_frame
function_frame-some texts function =
    filled-some (text_at texts function.name) _ (filled-some (text_at texts function.system_name) unknown_frame unknown-IsFrame.0)

-- each function's frame is one of a stack
abbrev pub HaveFrames : Pprof → Type 0
HaveFrames pprof = All (λ f. IsFrame (function_frame pprof.texts f)) pprof.functions

line_frame-IsFrame : (pprof : Pprof) (id : ℕ) → HaveFrames pprof → IsFrame (line_frame pprof id)
unfolding line_frame
line_frame-IsFrame pprof id have = by (id == 0)
  where
    frame : (found : Option Function) → IfSome found (λ f. IsFrame (function_frame pprof.texts f))
        → IsFrame (unwrap_or (option_map (function_frame pprof.texts) found) unknown_frame)
    frame None h = unknown-IsFrame
    frame (Some f) h = h

    by : (b : Bool) → IsFrame (if b then unknown_frame else unwrap_or (option_map (function_frame pprof.texts) (function_with pprof id)) unknown_frame)
    by true = unknown-IsFrame
    by false =
        frame (function_with pprof id) (found-All (λ f. IsFrame (function_frame pprof.texts f)) (λ f. f.id == id) pprof.functions have)

digits_onto-length : (k base : ℕ) (upper : Bool) (n : ℕ) (acc : List ℕ) → length (digits_onto k base upper n acc) ≤ k + length acc
digits_onto-length zero base upper n acc = omega arith
digits_onto-length (suc k) base upper n acc =
    by (n / base == 0) (digits_onto-length k base upper (n / base) (digit_glyph upper (n % base) ∷ acc))
  where
    by : (b : Bool) → length (digits_onto k base upper (n / base) (digit_glyph upper (n % base) ∷ acc)) ≤ k + suc (length acc)
        → length (if b then digit_glyph upper (n % base) ∷ acc else digits_onto k base upper (n / base) (digit_glyph upper (n % base) ∷ acc)) ≤ suc k + length acc
    by true h = omega arith
    by false h = omega arith

address_frame-IsFrame : (address : ℕ) → IsFrame (address_frame address)
unfolding digits
address_frame-IsFrame address =
    let most = digits_onto-length 64 16 false address [] in
    let size = length-append (codes "0x") (digits 16 false address) in
    (omega arith, omega arith)

location_frames-All : (pprof : Pprof) (location : Location) → HaveFrames pprof → All IsFrame (location_frames pprof location)
unfolding location_frames
location_frames-All pprof location have = by location.lines
  where
    lines : (ids : List ℕ) → All IsFrame (map (line_frame pprof) ids)
    lines [] = All-nil IsFrame
    lines (id ∷ ids) = All-cons IsFrame (line_frame pprof id) (map (line_frame pprof) ids) (line_frame-IsFrame pprof id have) (lines ids)

    by : (ids : List ℕ) → All IsFrame (frames_of pprof ids location.address)
    by [] = All-cons IsFrame (address_frame location.address) [] (address_frame-IsFrame location.address) (All-nil IsFrame)
    by (id ∷ ids) = lines (id ∷ ids)

location_frames-some : (pprof : Pprof) (location : Location) → 0 < length (location_frames pprof location)
unfolding location_frames
location_frames-some pprof location = by location.lines
  where
    by : (ids : List ℕ) → 0 < length (frames_of pprof ids location.address)
    by [] = omega arith
    by (id ∷ ids) = omega arith

frames_at-All : (pprof : Pprof) (id : ℕ) → HaveFrames pprof → All IsFrame (frames_at pprof id)
unfolding frames_at
frames_at-All pprof id have = by (location_with pprof id)
  where
    by : (found : Option Location) → All IsFrame (unwrap_or (option_map (location_frames pprof) found) [])
    by None = All-nil IsFrame
    by (Some location) = location_frames-All pprof location have

frames_at-some : (pprof : Pprof) (id : ℕ) → is_some (location_with pprof id) ≡ true → 0 < length (frames_at pprof id)
unfolding frames_at
frames_at-some pprof id = by (location_with pprof id)
  where
    by : (found : Option Location) → is_some found ≡ true → 0 < length (unwrap_or (option_map (location_frames pprof) found) [])
    by None h = absurd (true≢false (sym h))
    by (Some location) h = location_frames-some pprof location

All-reverse : {X : Type 0} (P : X → Type 0) (xs : List X) → All P xs → All P (reverse xs)
All-reverse P xs all k d short =
    let size = length-reverse xs in
    let within : k < length xs = omega arith in
    subst P (sym (get_or-reverse xs k d within)) (all (length xs - 1 - k) d (omega arith))

flat-All : (pprof : Pprof) (ids : List ℕ) → HaveFrames pprof → All IsFrame (flat_map (frames_at pprof) ids)
flat-All pprof [] have = All-nil IsFrame
flat-All pprof (id ∷ ids) have = All-append IsFrame (frames_at pprof id) (flat_map (frames_at pprof) ids) (frames_at-All pprof id have) (flat-All pprof ids have)

stack_of-All : (pprof : Pprof) (sample : Sample) → HaveFrames pprof → All IsFrame (stack_of pprof sample)
unfolding stack_of
stack_of-All pprof sample have = by sample.location_ids
  where
    by : (ids : List ℕ) → All IsFrame (root_first pprof ids)
    by [] = All-cons IsFrame unknown_frame [] unknown-IsFrame (All-nil IsFrame)
    by (id ∷ ids) = All-reverse IsFrame (flat_map (frames_at pprof) (id ∷ ids)) (flat-All pprof (id ∷ ids) have)

stack_of-some : (pprof : Pprof) (sample : Sample) → list_all (λ id. is_some (location_with pprof id)) sample.location_ids ≡ true → 0 < length (stack_of pprof sample)
unfolding stack_of
stack_of-some pprof sample = by sample.location_ids
  where
    by : (ids : List ℕ) → list_all (λ id. is_some (location_with pprof id)) ids ≡ true → 0 < length (root_first pprof ids)
    by [] all = omega arith
    by (id ∷ ids) all =
        let here = frames_at-some pprof id (and_parts (is_some (location_with pprof id)) _ all).0 in
        let both = length-append (frames_at pprof id) (flat_map (frames_at pprof) ids) in
        let turned = length-reverse (flat_map (frames_at pprof) (id ∷ ids)) in omega arith

-- ---- what the checks leave

pub functions-HaveFrames : (pprof : Pprof) → function_faults pprof.texts pprof.functions ≡ [] → HaveFrames pprof
unfolding function_faults faults_of_function
functions-HaveFrames pprof none i d short =
    let function : Function = get_or pprof.functions i d in
    let own = each-none (λ number f. faults_of_function pprof.texts (take number (map (λ g. g.id) pprof.functions)) number f) pprof.functions i d short none in
    let long = not_found (nat_lt 65535 (length (function_frame pprof.texts function))) _ ((no-parts _ _ own).1) in
    (function_frame-some pprof.texts function, ltb-false 65535 (length (function_frame pprof.texts function)) long)

pub samples-IsStack : (pprof : Pprof) → HaveFrames pprof → sample_faults pprof ≡ [] → All (λ sample. IsStack (stack_of pprof sample)) pprof.samples
unfolding sample_faults faults_of_sample
samples-IsStack pprof have none i d short =
    let sample : Sample = get_or pprof.samples i d in
    let own = each-none (faults_of_sample pprof) pprof.samples i d short none in
    let most = (no-parts _ _ own).0 in
    let some = (no-parts _ _ most).0 in
    let few = (no-parts _ _ some).0 in
    let found = not_found _ _ ((no-parts _ _ few).1) in
    let deep = not_found _ _ ((no-parts _ _ some).1) in
    record {
      some = stack_of-some pprof sample (not-false _ found);
      few = ltb-false 1024 (length (stack_of pprof sample)) deep;
      each = stack_of-All pprof sample have;
    }
