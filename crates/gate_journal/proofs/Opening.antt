-- The gate that an opening writes.
use Rattle.std.proofs.Common.{◌≡◌, ◌≢◌, ◌⊎◌, inl, inr, ⊎_elim, ℕ, zero, suc, ◌+◌, ◌*◌, ◌<◌, ◌≤◌, Bool, true, false, List, [], ◌∷◌, ◌++◌, length, take, drop, Option, Some, None, if◌then◌else◌, refl, sym, ◌∙◌, ap, subst, arith, append_assoc, length-append, length-drop, take-append-drop}
use Rattle.std.proofs.lemmas.List.{take_at}
use Rattle.std.proofs.lemmas.Bool.Decides.{nat_tests}
use Rattle.std.specs.Prelude.{IsSome}
use Rattle.disk_trait.specs.declared.disk.FileId.{FileId}
use Rattle.disk_trait.specs.Disk.{Files, DiskView, Tells, Leads, Touches, Torn, TornFile, Written, IsDurable, Looks, Stays, bytes_of, written}
use Rattle.disk_trait.proofs.Steps.{goes_on, widen, stays_before}
use Rattle.gate_journal.specs.Slots.{is_open, bodies_of, slots, AreBodies, AtRest, lacks_gate}
use Rattle.gate_journal.specs.Journal.{SameBodies}
use Rattle.gate_journal.proofs.Gates.{length-slots, bodies-slots}
use Rattle.gate_journal.proofs.Counting.{parts}

no_slot : (rest : List ℕ) → lacks_gate rest ≡ true → length rest < 64
no_slot [] lacks = omega arith
no_slot (gate ∷ tail) lacks = grind (arith, nat_tests)

short_shut : (rest : List ℕ) → length rest < 64 → is_open rest ≡ false
short_shut rest short = grind (arith, nat_tests)

gate_shut : (gate : ℕ) (tail : List ℕ) → lacks_gate (gate ∷ tail) ≡ false → is_open (gate ∷ tail) ≡ false → gate ≢ 1
gate_shut gate tail has shut one = grind (arith, nat_tests)

rest_of : (rest : List ℕ) → lacks_gate rest ≡ false → is_open rest ≡ false → (gate : ℕ) × (tail : List ℕ) × (gate ≢ 1) × (rest ≡ gate ∷ tail)
rest_of [] has shut = absurd (cc)
rest_of (gate ∷ tail) has shut = (gate, tail, gate_shut gate tail has shut, refl)

some_bytes : (content : Option (List ℕ)) (rest : ℕ) (tail : List ℕ) (n : ℕ) → drop n (bytes_of content) ≡ rest ∷ tail → content ≡ Some (bytes_of content)
some_bytes None rest tail zero is = absurd (cc)
some_bytes None rest tail (suc n) is = absurd (cc)
some_bytes (Some bytes) rest tail n is = refl

module _ (content : Option (List ℕ)) (count : ℕ) (counts : count ≡ length (bodies_of (bytes_of content))) where
  abbrev bytes : List ℕ
  bytes = bytes_of content

  abbrev bodies : List (List ℕ)
  bodies = bodies_of bytes

  split : bytes ≡ slots bodies ++ drop (64 * count) bytes
  split = subst (λ (n : ℕ). bytes ≡ slots bodies ++ drop (64 * n) bytes) (sym counts) (parts bytes).split

  shut : is_open (drop (64 * count) bytes) ≡ false
  shut = subst (λ (n : ℕ). is_open (drop (64 * n) bytes) ≡ false) (sym counts) (parts bytes).shut

  size : length (slots bodies) ≡ 64 * count
  size = omega (arith, length-slots bodies (parts bytes).whole, counts)

  front : take (64 * count) bytes ≡ slots bodies
  front = ap (λ (l : List ℕ). take (64 * count) l) split ∙ take_at (slots bodies) (drop (64 * count) bytes) (64 * count) size

  pub room : 64 * count ≤ length bytes
  room = omega (arith, ap length split, length-append (slots bodies) (drop (64 * count) bytes), size)

  -- a gate that is there
  pub rests : lacks_gate (drop (64 * count) bytes) ≡ false → AtRest bodies content
  rests has =
      let r = rest_of (drop (64 * count) bytes) has shut in
      record {
        gate = r.0;
        tail = r.1;
        shut = r.2;
        is = some_bytes content r.0 r.1 (64 * count) r.3 ∙ ap Some (split ∙ ap (λ (l : List ℕ). slots bodies ++ l) r.3);
        whole = (parts bytes).whole;
      }

  module _ (lacks : lacks_gate (drop (64 * count) bytes) ≡ true) where
    small : length bytes < 64 * count + 64
    small = omega (arith, no_slot (drop (64 * count) bytes) lacks, length-drop (64 * count) bytes)

    -- one that is torn opens no slot
    pub torn_end : (after : Option (List ℕ)) → TornFile (64 * count) 1 content after → SameBodies content after
    torn_end after (inl same) = ap (λ (o : Option (List ℕ)). bodies_of (bytes_of o)) same
    torn_end after (inr torn) =
        let all : torn.0 ≡ slots bodies ++ drop (64 * count) torn.0 =
        sym (take-append-drop (64 * count) torn.0) ∙ ap (λ (l : List ℕ). l ++ drop (64 * count) torn.0) (torn.2.front ∙ front) in
        let short : length (drop (64 * count) torn.0) < 64 = omega (arith, length-drop (64 * count) torn.0, torn.2.no_longer, small) in
        ap (λ (o : Option (List ℕ)). bodies_of (bytes_of o)) torn.1 ∙ ap bodies_of all
        ∙ bodies-slots bodies (drop (64 * count) torn.0) (parts bytes).whole (short_shut (drop (64 * count) torn.0) short)

    -- and one that is written rests
    pub rests_written : (after : Option (List ℕ)) → after ≡ Some (written bytes (64 * count) (0 ∷ [])) → AtRest bodies after
    rests_written after is =
        let tail = drop (64 * count + 1) bytes in
        record {
          gate = 0;
          tail = tail;
          shut = λ no. absurd (omega arith);
          is = is ∙ ap Some (ap (λ (l : List ℕ). l ++ (0 ∷ []) ++ tail) front ∙ append_assoc (slots bodies) (0 ∷ []) tail);
          whole = (parts bytes).whole;
        }

pub same_still : (file : FileId) (before image : Files) → Stays before image → Touches file SameBodies before image
same_still file before image stays = record {
  here = ap (λ (f : Files). bodies_of (bytes_of (f file))) stays;
  others = λ other differs. ap (λ (f : Files). f other) stays;
}

-- a look leaves the bodies
pub looked_leads : (file : FileId) (old new : DiskView) → Leads Stays old new → Leads (Touches file SameBodies) old new
looked_leads file old new run = widen run (λ before image left stays. same_still file before image stays)

-- and so does a gate behind them
pub gate_leads : (file : FileId) (count : ℕ) (old mid new : DiskView) → count ≡ length (bodies_of (bytes_of (old.files file))) → lacks_gate (drop (64 * count) (bytes_of (old.files file))) ≡ true
    → IsDurable file old → Leads Stays old mid → Leads (Touches file (TornFile (64 * count) 1)) mid new → Leads (Touches file SameBodies) old new
gate_leads file count old mid new counts lacks durable look run = goes_on look run
    (λ before image left stays. same_still file before image stays)
    (λ before between image left stays now step.
    let same : between file ≡ old.files file = ap (λ (f : Files). f file) stays ∙ durable before left in
    let torn : TornFile (64 * count) 1 (old.files file) (image file) = subst (λ (o : Option (List ℕ)). TornFile (64 * count) 1 o (image file)) same step.here in
    record {
      here = torn_end (old.files file) count counts lacks (image file) torn ∙ ap (λ (o : Option (List ℕ)). bodies_of (bytes_of o)) (sym (durable before left));
      others = λ other differs. step.others other differs ∙ ap (λ (f : Files). f other) stays;
    })
