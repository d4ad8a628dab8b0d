-- How a whole session follows from its steps.
use Rattle.std.proofs.Common.{◌≡◌, ◌+◌, ◌∙◌, ℕ, Bool, true, false, List, [], ◌∷◌, ◌++◌, length, refl, sym, ap, subst, inl, inr, append-nil, append_assoc, length-append, arith}
use Rattle.std.specs.Prelude.{◌||◌, map}
use Rattle.std.proofs.lemmas.List.{length-map}
use Rattle.std.proofs.lemmas.List.Concat.{flat_map-append}
use Rattle.http_session.specs.Asked.{Asked}
use Rattle.http_session.specs.Limits.{most_requests}
use Rattle.link_trait.specs.Link.{Told, Passed}
use Rattle.http_session.specs.Reply.{bytes_of_reply}
use Rattle.http_session.specs.Takes.{IsWhole, AreRequests, is_closed}
use Rattle.http_session.specs.Progress.{Progress}
use Rattle.http_session.proofs.RequestsLemmas.{closed_last, requests_stay, requests_then}
use Rattle.profile_model.specs.declared.push.Push.{Push}
use Rattle.request_meaning.specs.Facts.{Facts}
use Rattle.pyro_server.specs.Given.{Answer, EndsSo, Gives, IsEnded, IsOpen, requests_of, replies_of, last_bytes}
use Rattle.pyro_server.specs.Served.{Exchange, InTurn, IsExchange, IsServedInTurn, answers_of}
use Rattle.pyro_server.specs.Steps.{GivesNoMore, ServesStep, SoFar}
use Rattle.pyro_server.specs.declared.session.Step.TheVariants.{Replied, Over}
use Rattle.pyro_server.specs.declared.ending.Ending.{Ending}

-- ---- what passed

pub passed_nothing : (a : Told) → Passed [] [] a a
passed_nothing a = record { taken = sym (append-nil a.taken); to_come = refl; given = sym (append-nil a.given); moment = refl }

pub passed_then : (p q g h : List ℕ) (a b c : Told) → Passed p g a b → Passed q h b c → Passed (p ++ q) (g ++ h) a c
passed_then p q g h a b c one two = record {
  taken = two.taken ∙ ap (λ (xs : List ℕ). xs ++ q) one.taken ∙ append_assoc a.taken p q;
  to_come = one.to_come ∙ ap (λ (xs : List ℕ). p ++ xs) two.to_come ∙ sym (append_assoc p q c.to_come);
  given = two.given ∙ ap (λ (xs : List ℕ). xs ++ h) one.given ∙ append_assoc a.given g h;
  moment = two.moment ∙ one.moment;
}

-- ---- one answer more

map_then : {X Y : Type 0} (f : X → Y) (xs : List X) (x : X) → map f (xs ++ x ∷ []) ≡ map f xs ++ f x ∷ []
map_then f [] x = refl
map_then f (y ∷ xs) x = ap (λ ys. f y ∷ ys) (map_then f xs x)

replies_then : (answers : List Answer) (one : Answer) → replies_of (answers ++ one ∷ []) ≡ replies_of answers ++ bytes_of_reply one.reply
replies_then answers one =
    flat_map-append (λ (a : Answer). bytes_of_reply a.reply) answers (one ∷ [])
    ∙ ap (λ (last : List ℕ). replies_of answers ++ last) (append-nil (bytes_of_reply one.reply))

pub in_turn_then : (facts : Facts) (history : List Push) (exchanges : List Exchange) (middle : List Push) (one : Exchange) → InTurn facts history exchanges middle
    → IsExchange facts one.answer.asked middle one.answer.reply one.next → InTurn facts history (exchanges ++ one ∷ []) one.next
in_turn_then facts history [] middle one same exchange =
    let P : List Push → Type 0 = λ pushes. IsExchange facts one.answer.asked pushes one.answer.reply one.next in (subst P same exchange, refl)
in_turn_then facts history (first ∷ more) middle one (exchanged, turn) exchange = (exchanged, in_turn_then facts first.next more middle one turn exchange)

-- ---- the session

-- before the first request nothing was taken
pub at_first : (facts : Facts) (reader : Progress) (history : List Push) → reader.held ≡ [] → reader.given ≡ 0 → history ≡ []
    → (a : Told) → SoFar facts reader history a a
at_first facts reader history held given none a = (
  [],
  record { took = []; gave = []; passed = passed_nothing a; answered = record { requests = held; replies = refl }; unclosed = refl },
  sym given,
  none,
)

module _ (facts : Facts) (old new : Progress) (history next : List Push) (before between now : Told) where
  -- as many requests were answered as the reader gave
  many : (exchanges : List Exchange) → length exchanges ≡ old.given → length (requests_of (answers_of exchanges)) ≡ old.given
  many exchanges count = length-map (answers_of exchanges) (λ (a : Answer). a.asked) ∙ length-map exchanges (λ (e : Exchange). e.answer) ∙ count

  -- the requests that were answered, with one more behind them
  requests_with : (far : SoFar facts old history before between) (piece rest : List ℕ) (one : Answer)
      → IsWhole (old.given + 1) between.moment (old.held ++ piece) one.asked rest
      → AreRequests 1 before.moment (far.1.took ++ piece) (requests_of (answers_of far.0 ++ one ∷ [])) rest
  requests_with (exchanges, open_, count, turn) piece rest one whole =
      let requests = requests_of (answers_of exchanges) in
      let long : length requests ≡ old.given = many exchanges count in
      let number : old.given + 1 ≡ 1 + length requests = omega arith in
      let N : ℕ → Type 0 = λ n. IsWhole n between.moment (old.held ++ piece) one.asked rest in
      let M : ℕ → Type 0 = λ m. IsWhole (1 + length requests) m (old.held ++ piece) one.asked rest in
      let R : List Asked → Type 0 = λ asked. AreRequests 1 before.moment (open_.took ++ piece) asked rest in
      subst R (sym (map_then (λ (a : Answer). a.asked) (answers_of exchanges) one))
      (requests_then 1 before.moment (open_.took ++ piece) requests (old.held ++ piece) one.asked rest
      (requests_stay 1 before.moment open_.took requests old.held piece open_.answered.requests) open_.unclosed
      (subst M open_.passed.moment (subst N number whole)))

  -- the last of them asks for closing where the one more does
  closed_with : (answers : List Answer) (one : Answer) (close : Bool) → one.asked.close ≡ close → is_closed (requests_of (answers ++ one ∷ [])) ≡ close
  closed_with answers one close same =
      ap is_closed (map_then (λ (a : Answer). a.asked) answers one) ∙ closed_last (requests_of answers) one.asked ∙ same

  gave_with : (answers : List Answer) (one : Answer) (gave : List ℕ) → gave ≡ replies_of answers
      → gave ++ bytes_of_reply one.reply ≡ replies_of (answers ++ one ∷ [])
  gave_with answers one gave is = ap (λ (front : List ℕ). front ++ bytes_of_reply one.reply) is ∙ sym (replies_then answers one)

  -- one request more was answered
  pub one_more : new.given ≡ old.given + 1 → SoFar facts old history before between → ServesStep facts old new history next (Replied false) between now
      → SoFar facts new next before now
  one_more number (exchanges, open_, count, turn) (piece, asked, reply, passed, whole, exchange, unclosed) =
      let answer : Answer = record { asked = asked; reply = reply } in
      let one : Exchange = record { answer = answer; next = next } in
      let are : answers_of (exchanges ++ one ∷ []) ≡ answers_of exchanges ++ answer ∷ [] = map_then (λ (e : Exchange). e.answer) exchanges one in
      let N : ℕ → Type 0 = λ n. IsWhole n between.moment (old.held ++ piece) asked new.held in
      let O : List Answer → Type 0 = λ answers. IsOpen answers new.held before now in
      let long = length-append exchanges (one ∷ []) in
      let opened : IsOpen (answers_of exchanges ++ answer ∷ []) new.held before now = record {
        took = open_.took ++ piece;
        gave = open_.gave ++ bytes_of_reply reply;
        passed = passed_then open_.took piece open_.gave (bytes_of_reply reply) before between now open_.passed passed;
        answered = record {
          requests = requests_with (exchanges, open_, count, turn) piece new.held answer (subst N number whole);
          replies = gave_with (answers_of exchanges) answer open_.gave open_.answered.replies;
        };
        unclosed = closed_with (answers_of exchanges) answer false unclosed;
      } in (
        exchanges ++ one ∷ [],
        subst O (sym are) opened,
        omega arith,
        in_turn_then facts [] exchanges history one turn exchange,
      )

  -- the last request was answered
  pub closed : (close : Bool) (ending : Ending) → new.given ≡ old.given + 1
      → ((requests : List Asked) (rest : List ℕ) → is_closed requests ≡ true → length requests ≡ old.given + 1 → EndsSo requests rest now.to_come ending)
      → ((moment : ℕ) → last_bytes ending moment ≡ [])
      → SoFar facts old history before between → ServesStep facts old new history next (Replied close) between now
      → ((asked : Asked) (moment : ℕ) (bytes rest : List ℕ) → IsWhole (old.given + 1) moment bytes asked rest → asked.close ≡ close → asked.close ≡ true)
      → IsServedInTurn facts next ending before now
  closed close ending number ends silent (exchanges, open_, count, turn) (piece, asked, reply, passed, whole, exchange, same) closes =
      let answer : Answer = record { asked = asked; reply = reply } in
      let one : Exchange = record { answer = answer; next = next } in
      let are : answers_of (exchanges ++ one ∷ []) ≡ answers_of exchanges ++ answer ∷ [] = map_then (λ (e : Exchange). e.answer) exchanges one in
      let N : ℕ → Type 0 = λ n. IsWhole n between.moment (old.held ++ piece) asked new.held in
      let here : IsWhole (old.given + 1) between.moment (old.held ++ piece) asked new.held = subst N number whole in
      let asks : asked.close ≡ true = closes asked between.moment (old.held ++ piece) new.held here same in
      let all = answers_of exchanges ++ answer ∷ [] in
      let long : length (requests_of all) ≡ old.given + 1 =
      length-map all (λ (a : Answer). a.asked) ∙ length-append (answers_of exchanges) (answer ∷ []) ∙ ap (λ n. n + 1) (length-map exchanges (λ (e : Exchange). e.answer) ∙ count) in
      let E : List Answer → Type 0 = λ answers. IsEnded answers ending before now in
      let ended_ : IsEnded all ending before now = record {
        took = open_.took ++ piece;
        gave = open_.gave ++ bytes_of_reply reply;
        passed = passed_then open_.took piece open_.gave (bytes_of_reply reply) before between now open_.passed passed;
        gives = inl record {
          rest = new.held;
          requests = requests_with (exchanges, open_, count, turn) piece new.held answer here;
          ends = ends (requests_of all) new.held (closed_with (answers_of exchanges) answer true asks) long;
          given = gave_with (answers_of exchanges) answer open_.gave open_.answered.replies ∙ sym (append-nil (replies_of all))
              ∙ ap (λ (last : List ℕ). replies_of all ++ last) (sym (silent before.moment));
        };
      } in (exchanges ++ one ∷ [], subst E (sym are) ended_, in_turn_then facts [] exchanges history one turn exchange)

  -- no further request was answered
  over_plainly : (ending : Ending) (far : SoFar facts old history before between) (piece gave : List ℕ) → Passed piece gave between now
      → GivesNoMore old.given between.moment (old.held ++ piece) now.to_come gave ending
      → Gives before.moment (far.1.took ++ piece) now.to_come (answers_of far.0) (far.1.gave ++ gave) ending
  over_plainly ending (exchanges, open_, count, turn) piece gave passed (inl (ends, given)) = inl record {
    rest = old.held ++ piece;
    requests = requests_stay 1 before.moment open_.took (requests_of (answers_of exchanges)) old.held piece open_.answered.requests;
    ends = ends (requests_of (answers_of exchanges)) open_.unclosed (many exchanges count);
    given = ap (λ (front : List ℕ). front ++ gave) open_.answered.replies
        ∙ ap (λ (last : List ℕ). replies_of (answers_of exchanges) ++ last) (given ∙ ap (λ (m : ℕ). last_bytes ending m) open_.passed.moment);
  }
  over_plainly ending (exchanges, open_, count, turn) piece gave passed (inr (failed, (due, ends, (rest, cut)))) = inr (
    failed,
    inr record {
      rest = old.held ++ piece;
      requests = requests_stay 1 before.moment open_.took (requests_of (answers_of exchanges)) old.held piece open_.answered.requests;
      due = due;
      ends = ends (requests_of (answers_of exchanges)) open_.unclosed (many exchanges count);
      front = gave;
      is_front = (rest, ap (λ (m : ℕ). last_bytes due m) (sym open_.passed.moment) ∙ cut);
      given = ap (λ (front : List ℕ). front ++ gave) open_.answered.replies;
    },
  )

  -- the connection is over
  pub over : (ending : Ending) → SoFar facts old history before between → ServesStep facts old new history next (Over ending) between now
      → IsServedInTurn facts next ending before now
  over ending (exchanges, open_, count, turn) (piece, gave, passed, inl (gives, same)) =
      let T : List Push → Type 0 = λ pushes. InTurn facts [] exchanges pushes in (
        exchanges,
        record {
          took = open_.took ++ piece;
          gave = open_.gave ++ gave;
          passed = passed_then open_.took piece open_.gave gave before between now open_.passed passed;
          gives = over_plainly ending (exchanges, open_, count, turn) piece gave passed gives;
        },
        subst T (sym same) turn,
      )
  over ending (exchanges, open_, count, turn) (piece, gave, passed, inr (failed, (asked, reply, rest, whole, front, exchange))) =
      let answer : Answer = record { asked = asked; reply = reply } in
      let one : Exchange = record { answer = answer; next = next } in
      let are : answers_of (exchanges ++ one ∷ []) ≡ answers_of exchanges ++ answer ∷ [] = map_then (λ (e : Exchange). e.answer) exchanges one in
      let E : List Answer → Type 0 = λ answers. IsEnded answers ending before now in
      let ended_ : IsEnded (answers_of exchanges ++ answer ∷ []) ending before now = record {
        took = open_.took ++ piece;
        gave = open_.gave ++ gave;
        passed = passed_then open_.took piece open_.gave gave before between now open_.passed passed;
        gives = inr (
          failed,
          inl record {
            whole = answers_of exchanges;
            cut = answer;
            are = refl;
            rest = rest;
            requests = requests_with (exchanges, open_, count, turn) piece rest answer whole;
            front = gave;
            is_front = front;
            given = ap (λ (before_ : List ℕ). before_ ++ gave) open_.answered.replies;
          },
        );
      } in (exchanges ++ one ∷ [], subst E (sym are) ended_, in_turn_then facts [] exchanges history one turn exchange)

-- the last request that a connection may have asks for closing
pub last_closes : (asked : Asked) (moment : ℕ) (bytes rest : List ℕ) → IsWhole most_requests moment bytes asked rest → asked.close ≡ true
last_closes asked moment bytes rest (head, framing, body, after, begins, framed, is_body, is) = ap (λ (a : Asked). a.close) is ∙ or-true _
  where
    or-true : (b : Bool) → (b || true) ≡ true
    or-true true = refl
    or-true false = refl
