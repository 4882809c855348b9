-- The records of messages in the slots of a run.
use Rattle.std.proofs.Common.{◌≡◌, ℕ, zero, suc, ◌+◌, ◌-◌, ◌*◌, ◌/◌, ◌%◌, ◌^◌, ◌≤◌, ◌<◌, pos, List, [], ◌∷◌, ◌++◌, All, take, drop, get_or, sym, refl, ap, ◌∙◌, length, arith, take-add}
use Rattle.std.proofs.lemmas.List.{take_more}
use Rattle.ring_layout.specs.{declared.message.Message.Message, History.IsMessage, History.span}
use Rattle.ring_table.specs.RunBodies.{message_of, messages_of, LiesAt, Outgoing}
use Rattle.ring_table.specs.Runs.{run_bytes, run_slots, AreMessages}
use Rattle.ring_table.specs.Staged.{body_word, headed, slot_bytes}
use Rattle.ring_table.proofs.RunSlots.{first_record_word, next_record_word}
use Rattle.ring_table.proofs.SlotBytes.{first_word_of, later_word, length_headed, length_slot}

-- ---- the words of one record

pub record_head : (h : ℕ) (body : List ℕ) (run : List ℕ) (k : ℕ) → h < 2 ^ 64 → LiesAt (8 * k) (headed h body) run → h ≡ body_word run (8 * k)
record_head h body run k small lies =
    let long = length_headed h body in
    let none : 8 * k + 0 ≡ 8 * k = omega arith in
    sym (first_word_of h body small) ∙ sym (lies 0 refl (omega arith)) ∙ ap (body_word run) none

pub record_next : (h : ℕ) (body : List ℕ) (run : List ℕ) (k i : ℕ) → 8 * i < length body → LiesAt (8 * k) (headed h body) run
    → body_word body (8 * i) ≡ body_word run (8 * (k + 1 + i))
record_next h body run k i less lies =
    let long = length_headed h body in
    let at : 8 * k + (8 + 8 * i) ≡ 8 * (k + 1 + i) = omega arith in
    sym (later_word h body (8 * i)) ∙ sym (lies (8 + 8 * i) (omega arith) (omega arith)) ∙ ap (body_word run) at

-- ---- the messages of a list

abbrev pub no_message : Outgoing
no_message = record { type_id = pos 0; body = record { ref_ptr = (0, 0); now = [] } }

messages_append : (xs ys : List Outgoing) → messages_of (xs ++ ys) ≡ messages_of xs ++ messages_of ys
messages_append [] ys = refl
messages_append (x ∷ xs) ys = ap (λ l. message_of x ∷ l) (messages_append xs ys)

bytes_append : (ms : List Message) (m : Message) → run_bytes (ms ++ m ∷ []) ≡ run_bytes ms + span (length m.body)
bytes_append [] m = omega arith
bytes_append (x ∷ ms) m = let rest = bytes_append ms m in omega arith

are_append : (C : ℕ) (ms : List Message) (m : Message) → AreMessages C ms → IsMessage C m → AreMessages C (ms ++ m ∷ [])
are_append C [] m are is = (is, are)
are_append C (x ∷ ms) m are is = (are.0, are_append C ms m are.1 is)

module _ (os : List Outgoing) (i : ℕ) (lt : i < length os) where
  messages_more : messages_of (take (i + 1) os) ≡ messages_of (take i os) ++ message_of (get_or os i no_message) ∷ []
  messages_more = ap messages_of (take_more os i no_message lt) ∙ messages_append (take i os) (get_or os i no_message ∷ [])

  pub bytes_more : run_bytes (messages_of (take (i + 1) os))
      ≡ run_bytes (messages_of (take i os)) + span (length (get_or os i no_message).body.now)
  bytes_more = ap run_bytes messages_more ∙ bytes_append (messages_of (take i os)) (message_of (get_or os i no_message))

  pub are_more : (C : ℕ) → AreMessages C (messages_of (take i os)) → IsMessage C (message_of (get_or os i no_message))
      → AreMessages C (messages_of (take (i + 1) os))
  are_more C are is = Rattle.std.proofs.Common.subst (AreMessages C) (sym messages_more)
      (are_append C (messages_of (take i os)) (message_of (get_or os i no_message)) are is)

pub bytes_upto : (os : List Outgoing) (i : ℕ) → run_bytes (messages_of (take i os)) ≤ run_bytes (messages_of os)
bytes_upto [] zero = omega arith
bytes_upto [] (suc i) = omega arith
bytes_upto (o ∷ os) zero = omega arith
bytes_upto (o ∷ os) (suc i) = let rest = bytes_upto os i in omega arith

-- the record of a message lies after those before it
pub lies_in : (os : List Outgoing) (i : ℕ) → i < length os
    → LiesAt (run_bytes (messages_of (take i os))) (slot_bytes (message_of (get_or os i no_message))) (run_slots (messages_of os))
lies_in [] i lt = λ o o8 less. absurd (omega arith)
lies_in (x ∷ os) zero lt = λ o o8 less.
    let long = length_slot (message_of x) in
    let none : 0 + o ≡ o = omega arith in
    ap (body_word (run_slots (messages_of (x ∷ os)))) none
    ∙ first_record_word (message_of x) (messages_of os) o o8 (omega arith)
lies_in (x ∷ os) (suc i) lt = λ o o8 less.
    let a : ℕ = span (length x.body.now) in
    let b : ℕ = run_bytes (messages_of (take i os)) in
    let sum : a + b + o ≡ a + (b + o) = omega arith in
    ap (body_word (run_slots (messages_of (x ∷ os)))) sum
    ∙ next_record_word (message_of x) (messages_of os) (b + o)
    ∙ lies_in os i (omega arith) o o8 less

pub first_message : (os : List Outgoing) → 0 < length os → (m : Message) × (ms : List Message) × (messages_of os ≡ m ∷ ms)
first_message [] some = absurd (omega arith)
first_message (o ∷ os) some = (message_of o, messages_of os, refl)

-- a run has at least one header
pub least_bytes : (os : List Outgoing) → 0 < length os → 8 ≤ run_bytes (messages_of os)
least_bytes [] some = absurd (omega arith)
least_bytes (o ∷ os) some = omega arith

-- some messages, and the next ones
pub messages_on : (os : List Outgoing) (a b : ℕ)
    → messages_of (take (a + b) os) ≡ messages_of (take a os) ++ messages_of (take b (drop a os))
messages_on os a b = ap messages_of (take-add a b os) ∙ messages_append (take a os) (take b (drop a os))
