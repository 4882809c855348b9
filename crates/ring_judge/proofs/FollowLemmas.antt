-- What a line of the consumer takes from the messages that are left.
use Rattle.std.proofs.Common.{◌≡◌, ℕ, ◌+◌, ◌<◌, ◌≤◌, List, [], ◌∷◌, ◌++◌, length, take, drop, get_or, sym, refl, ap, ◌∙◌, ⊎_elim, append_assoc, subst, take-append-drop, append-nil, take_all}
use Rattle.std.proofs.lemmas.{Bool.cases_eq, List.take_more}
use Rattle.ring_judge.specs.{declared.message.Message.Message, Verdicts.IsFirstUnexplained}
use Rattle.ring_judge.specs.declared.queue.QueueLine.{QueueLine, TheVariants.Got, TheVariants.Empty}
use Rattle.ring_judge.specs.Queue.{part_of, sent_in, IsExplained, CanShow, Follows, Refuses}
use Rattle.ring_judge.proofs.PartLemmas.{part_of-own, part_of-other, IsWithout, none_left, some_left}

-- a message that is the first of its producer's is taken
pub follows_got : (m : Message) (w v : List Message) → IsWithout m w v → Follows w (Got m) v
follows_got m w v t = record {
  forward = λ lines shown. let rest = shown.2.0 in let e = shown.2.1 in (
    rest,
    λ p. ⊎_elim
        (λ same. let a = part_of-own p m rest same in let b = shown.1 p in
        let own : part_of p w ≡ m ∷ part_of p v = subst (λ (q : ℕ). part_of q w ≡ m ∷ part_of q v) same t.own in
        let f = ap (part_of p) e in cc)
        (λ ne. sym (part_of-other p m rest ne) ∙ (ap (part_of p) (sym e) ∙ (shown.1 p ∙ t.others p ne)))
        (cases_eq m.producer p),
    shown.2.2,
  );
  backward = λ lines shown. let h = shown.0 in (
    m ∷ h,
    λ p. ⊎_elim
        (λ same. let own : part_of p w ≡ m ∷ part_of p v =
        subst (λ (q : ℕ). part_of q w ≡ m ∷ part_of q v) same t.own in
        part_of-own p m h same ∙ (ap (λ l. m ∷ l) (shown.1 p) ∙ sym own))
        (λ ne. part_of-other p m h ne ∙ (shown.1 p ∙ sym (t.others p ne))) (cases_eq m.producer p),
    (h, refl, shown.2),
  );
}

-- no other message is
pub refuses_got : (m : Message) (w : List Message) → ((rest : List Message) → part_of m.producer w ≡ m ∷ rest → ⊥)
    → Refuses w (Got m)
refuses_got m w not_first lines shown = let rest = shown.2.0 in
    not_first (part_of m.producer rest)
    (sym (shown.1 m.producer) ∙ (ap (part_of m.producer) shown.2.1 ∙ part_of-own m.producer m rest refl))

pub follows_empty : (w : List Message) → w ≡ [] → Follows w Empty w
follows_empty w e = record {
  forward = λ lines shown. (shown.0, shown.1, shown.2.1);
  backward = λ lines shown. (
    shown.0,
    shown.1,
    (none_left shown.0 (λ p. shown.1 p ∙ ap (part_of p) e), shown.2),
  );
}

pub refuses_empty : (w : List Message) → (w ≡ [] → ⊥) → Refuses w Empty
refuses_empty w ne lines shown = ne (some_left w (λ p. ap (part_of p) (sym shown.2.0) ∙ shown.1 p))

-- the first k lines of a run leave these messages
pub record AreLeft (run : List QueueLine) (k : ℕ) (w : List Message) : Type 0 where
  pub forward : (lines : List QueueLine) → CanShow (sent_in run) (take k run ++ lines) → CanShow w lines
  pub backward : (lines : List QueueLine) → CanShow w lines → CanShow (sent_in run) (take k run ++ lines)

pub none_read : (run : List QueueLine) → AreLeft run 0 (sent_in run)
none_read run = record { forward = λ lines shown. shown; backward = λ lines shown. shown }

take_next : (run : List QueueLine) (k : ℕ) (d : QueueLine) (lines : List QueueLine) → k < length run
    → take (k + 1) run ++ lines ≡ take k run ++ get_or run k d ∷ lines
take_next run k d lines lt = ap (λ l. l ++ lines) (take_more run k d lt)
    ∙ append_assoc (take k run) (get_or run k d ∷ []) lines

pub one_more : (run : List QueueLine) (k : ℕ) (d : QueueLine) (w v : List Message) → k < length run
    → AreLeft run k w → Follows w (get_or run k d) v → AreLeft run (k + 1) v
one_more run k d w v lt left follows = record {
  forward = λ lines shown. follows.forward lines (left.forward (get_or run k d ∷ lines)
      (subst (CanShow (sent_in run)) (take_next run k d lines lt) shown));
  backward = λ lines shown. subst (CanShow (sent_in run)) (sym (take_next run k d lines lt))
      (left.backward (get_or run k d ∷ lines) (follows.backward lines shown));
}

as_history : (run lines : List QueueLine) → CanShow (sent_in run) lines → IsExplained run lines
as_history run lines shown = (shown.0, record { parts = shown.1; shows = shown.2 })

as_shown : (run lines : List QueueLine) → IsExplained run lines → CanShow (sent_in run) lines
as_shown run lines e = (e.0, e.1.parts, e.1.shows)

pub explained : (run : List QueueLine) (k : ℕ) (w : List Message) → AreLeft run k w → IsExplained run (take k run)
explained run k w left = as_history run (take k run)
    (subst (CanShow (sent_in run)) (append-nil (take k run)) (left.backward [] (w, λ p. refl, tt)))

pub explained_all : (run : List QueueLine) (k : ℕ) (w : List Message) → length run ≤ k → AreLeft run k w
    → IsExplained run run
explained_all run k w le left = subst (IsExplained run) (take_all k run le) (explained run k w left)

pub first_unexplained : (run : List QueueLine) (k : ℕ) (d : QueueLine) (w : List Message) → k < length run
    → AreLeft run k w → Refuses w (get_or run k d) → IsFirstUnexplained IsExplained run k
first_unexplained run k d w lt left refuses =
    let none : (lines : List QueueLine) → CanShow (sent_in run) (take k run ++ get_or run k d ∷ lines) → ⊥ =
    λ lines shown. refuses lines (left.forward (get_or run k d ∷ lines) shown) in
    record {
      within = lt;
      before = explained run k w left;
      at_line = λ e. none [] (subst (CanShow (sent_in run))
          (sym (append-nil (take (k + 1) run)) ∙ take_next run k d [] lt) (as_shown run (take (k + 1) run) e));
      whole = λ e. none (drop (k + 1) run) (subst (CanShow (sent_in run))
          (sym (take-append-drop (k + 1) run) ∙ take_next run k d (drop (k + 1) run) lt) (as_shown run run e));
    }
