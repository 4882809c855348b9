-- Sums of the numbers in messages.
use Rattle.std.proofs.Common.{◌≡◌, ◌∙◌, ◌+◌, ◌%◌, ◌^◌, ◌≤◌, ℕ, ℤ, zero, suc, pos, List, [], ◌∷◌, ◌++◌, length, length-append, refl, sym, ap, append_assoc, arith, append-nil}
use Rattle.std.proofs.lemmas.List.Sums.{sum_by-append}
use Rattle.ring_layout.specs.{declared.message.Message.Message, Handles.Handles}
use Rattle.ring_words.specs.declared.read.action.Action.{Action}
use Rattle.ring_ends.specs.{End.received, End.sent, End.End, Ending.Last}
use Rattle.ring_uses.specs.{declared.numbers.Sum.Sum, declared.numbers.Summed.Summed, Closing.IsClosedWith}
use Rattle.ring_uses.specs.Numbers.{number_in, numbered, numbers, sum_of, Adds}
use Rattle.ring_uses.{specs.Sum.IsSummed, proofs.ClosedLemmas.whole_in}

pub sum_more : (ms : List Message) (m : Message) → (sum_of ms + number_in m) % 2 ^ 64 ≡ sum_of (ms ++ m ∷ [])
sum_more ms m = let all = sum_by-append number_in ms (m ∷ []) in omega (arith, all)

-- a handler that adds up what it is shown has the sum of all that was received
pub sums : (s t : Sum) (before ms : List Message) (actions : List Action) → Handles Adds s ms actions t
    → s.sum ≡ sum_of before → t.sum ≡ sum_of (before ++ ms)
sums s t before [] [] h is = ap (λ (x : Sum). x.sum) (sym h) ∙ is ∙ sym (ap sum_of (append-nil before))
sums s t before [] (a ∷ actions) h is = absurd h
sums s t before (m ∷ ms) [] h is = absurd h
sums s t before (m ∷ ms) (a ∷ actions) h is =
    let now = h.1 ∙ ap (λ n. (n + number_in m) % 2 ^ 64) is ∙ sum_more before m in
    sums h.0 t (before ++ m ∷ []) ms actions h.2 now ∙ ap sum_of (append_assoc before (m ∷ []) ms)

length_more : (ms : List Message) (m : Message) → length (ms ++ m ∷ []) ≡ length ms + 1
length_more ms m = length-append ms (m ∷ [])

pub length-numbers : (type_id : ℤ) (n : ℕ) → length (numbers type_id n) ≡ n
length-numbers type_id zero = refl
length-numbers type_id (suc n) =
    let rest = length-numbers type_id n in
    length_more (numbers type_id n) (numbered type_id (suc n)) ∙ omega arith

-- as many were received as were sent, so none is unread
pub none_unread : (received unread sent : List Message) → received ++ unread ≡ sent → length sent ≤ length received
    → received ≡ sent
none_unread received [] sent all le = sym (append-nil received) ∙ all
none_unread received (m ∷ unread) sent all le =
    let lengths = ap length all in
    absurd (omega (arith, length-append received (m ∷ unread)))

pub summed : (last n : ℕ) (s : Summed Last) (p q : End) → IsClosedWith p q s.closed → n ≤ last
    → sent p ≡ numbers (pos 1) n → last ≤ length (received q) → s.sum ≡ sum_of (received q) → IsSummed last s
summed last n s p q closed few are enough is =
    let count = ap length are ∙ length-numbers (pos 1) n in
    let whole = closed.whole in
    let all = none_unread (received q) whole.unread (sent p) whole.all (omega arith) in
    let same : n ≡ last = (let l = ap length all in omega arith) in
    let sent_is = are ∙ ap (numbers (pos 1)) same in
    record {
      sends = ap (λ (x : Last). sent x.producer) closed.ends ∙ sent_is;
      receives = ap (λ (x : Last). received x.consumer) closed.ends ∙ (all ∙ sent_is);
      whole = whole_in p q s.closed closed;
      sum = is ∙ ap sum_of (sym (ap (λ (x : Last). received x.consumer) closed.ends));
    }
