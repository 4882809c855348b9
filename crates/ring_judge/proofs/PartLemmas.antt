-- The parts of producers.
use Rattle.std.proofs.Common.{◌≡◌, ℕ, List, [], ◌∷◌, ◌++◌, length, eqb, sym, refl, ap, ◌∙◌, ⊎_elim, suc, eq-eqb, ne_eqb}
use Rattle.std.proofs.lemmas.Bool.{cases_eq, cond-true, cond-false}
use Rattle.ring_judge.specs.{declared.message.Message.Message, Queue.part_of, Queue.SameParts}

-- a message is in the part of its producer
pub part_of-own : (p : ℕ) (m : Message) (ms : List Message) → m.producer ≡ p → part_of p (m ∷ ms) ≡ m ∷ part_of p ms
part_of-own p m ms e = cond-true (eqb m.producer p) (m ∷ part_of p ms) (part_of p ms) (eq-eqb m.producer p e)

-- and in no other
pub part_of-other : (p : ℕ) (m : Message) (ms : List Message) → (m.producer ≡ p → ⊥) → part_of p (m ∷ ms) ≡ part_of p ms
part_of-other p m ms ne = cond-false (eqb m.producer p) (m ∷ part_of p ms) (part_of p ms) (ne_eqb m.producer p ne)

pub part_of-append : (p : ℕ) (xs ys : List Message) → part_of p (xs ++ ys) ≡ part_of p xs ++ part_of p ys
part_of-append p [] ys = refl
part_of-append p (x ∷ xs) ys = ⊎_elim
    (λ e. part_of-own p x (xs ++ ys) e ∙ (ap (λ l. x ∷ l) (part_of-append p xs ys)
    ∙ ap (λ l. l ++ part_of p ys) (sym (part_of-own p x xs e))))
    (λ ne. part_of-other p x (xs ++ ys) ne ∙ (part_of-append p xs ys
    ∙ ap (λ l. l ++ part_of p ys) (sym (part_of-other p x xs ne))))
    (cases_eq x.producer p)

-- v is w without the message m, which was the first of its producer's
pub record IsWithout (m : Message) (w v : List Message) : Type 0 where
  pub own : part_of m.producer w ≡ m ∷ part_of m.producer v
  pub others : (p : ℕ) → (m.producer ≡ p → ⊥) → part_of p w ≡ part_of p v
  pub shorter : length w ≡ suc (length v)

pub without : (m : Message) (w rest : List Message) → part_of m.producer w ≡ m ∷ rest
    → (v : List Message) × IsWithout m w v
without m [] rest e = absurd (cc)
without m (x ∷ xs) rest e = ⊎_elim
    (λ same. let is : part_of m.producer (x ∷ xs) ≡ x ∷ part_of m.producer xs =
    part_of-own m.producer x xs same in
    (xs, record { own = cc; others = λ p ne. part_of-other p x xs (λ f. ne (sym same ∙ f)); shorter = refl }))
    (λ differs. let is = part_of-other m.producer x xs differs in let t = without m xs rest (sym is ∙ e) in (
      x ∷ t.0,
      record {
        own = is ∙ (t.1.own ∙ ap (λ l. m ∷ l) (sym (part_of-other m.producer x t.0 differs)));
        others = λ p ne. ⊎_elim
            (λ f. part_of-own p x xs f ∙ (ap (λ l. x ∷ l) (t.1.others p ne) ∙ sym (part_of-own p x t.0 f)))
            (λ g. part_of-other p x xs g ∙ (t.1.others p ne ∙ sym (part_of-other p x t.0 g))) (cases_eq x.producer p);
        shorter = ap suc t.1.shorter;
      },
    ))
    (cases_eq x.producer m.producer)

-- what has the parts of an empty list is empty
pub none_left : (h : List Message) → SameParts h [] → h ≡ []
none_left [] same = refl
none_left (x ∷ xs) same = let is = part_of-own x.producer x xs refl in let none = same x.producer in cc

pub some_left : (w : List Message) → SameParts [] w → w ≡ []
some_left w same = none_left w (λ p. sym (same p))
