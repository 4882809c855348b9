-- The steps by which the words of a plain ring come into the format.
use Rattle.std.specs.Prelude.{◌==◌, if◌then◌else◌, set}
use Rattle.std.proofs.Common.{◌≡◌, ◌≢◌, ℕ, zero, suc, ◌+◌, ◌/◌, ◌≤◌, ◌<◌, List, refl, ap, sym, ◌∙◌, arith, eq-eqb}
use Rattle.std.proofs.lemmas.{Nat.mod_below, Bool.ne_eqb, Bool.le-leb, Bool.lt-leb, Bool.cond-true, Bool.cond-false}
use Rattle.ring_layout.specs.{Places.index, Places.IsCapacity, Layout.ring_words}
use Rattle.ring_layout.proofs.CapacityLemmas.{capacity_blocks}
use Rattle.ring_snapshot.specs.Marks.{header_with, mark_at, run_of}
use Rattle.ring_snapshot.specs.PlainWords.{joined_from, span_at, with_record}

-- the record at a position with this mark has n bytes, and makes these words
abbrev Joins : ℕ → List ℕ → ℕ → ℕ → ℕ → ℕ → List ℕ → List ℕ → Type 0
Joins C slots tail mark at n old new = (n ≡ span_at C tail at (header_with C slots tail mark at)) × (new
    ≡ (if n == 0 then set old (index C at) (header_with C slots tail mark at)
    else with_record C slots tail mark at n old))

-- the tail was reached
pub joined_over : (C : ℕ) (slots : List ℕ) (tail m run at : ℕ) (words : List ℕ) → tail ≤ at
    → joined_from C slots tail m run at words ≡ words
joined_over C slots tail zero run at words le = refl
joined_over C slots tail (suc m) run at words le = cond-true _ _ _ (le-leb tail at le)

-- a record with this mark is passed
pub joined_goes : (C : ℕ) (slots : List ℕ) (tail m k run at mark n : ℕ) (old new : List ℕ) → m ≡ k + 1
    → at < tail
    → mark ≡ mark_at C old run at
    → n ≢ 0
    → Joins C slots tail mark at n old new
    → joined_from C slots tail m run at old ≡ joined_from C slots tail k (run_of mark) (at + n) new
joined_goes C slots tail zero k run at mark n old new em below word some joins = absurd (omega (arith, em))
joined_goes C slots tail (suc m) k run at mark n old new em below word some joins =
    cond-false _ _ _ (lt-leb tail at below)
    ∙ ap (λ w. let s = span_at C tail at (header_with C slots tail w at) in
    if s == 0 then set old (index C at) (header_with C slots tail w at)
    else joined_from C slots tail m (run_of w) (at + s) (with_record C slots tail w at s old)) (sym word)
    ∙ ap (λ s. if s == 0 then set old (index C at) (header_with C slots tail mark at)
    else joined_from C slots tail m (run_of mark) (at + s) (with_record C slots tail mark at s old)) (sym joins.0)
    ∙ cond-false _ _ _ (ne_eqb n 0 some)
    ∙ ap (λ j. joined_from C slots tail j (run_of mark) (at + n) (with_record C slots tail mark at n old))
    (let h : m ≡ k = omega (arith, em) in h)
    ∙ ap (joined_from C slots tail k (run_of mark) (at + n)) (sym (joins.1 ∙ cond-false _ _ _ (ne_eqb n 0 some)))

-- no record is there
pub joined_stops : (C : ℕ) (slots : List ℕ) (tail m run at mark n : ℕ) (old new : List ℕ)
    → m ≢ 0
    → at < tail
    → mark ≡ mark_at C old run at
    → n ≡ 0
    → Joins C slots tail mark at n old new
    → joined_from C slots tail m run at old ≡ new
joined_stops C slots tail zero run at mark n old new some below word none joins = absurd (some refl)
joined_stops C slots tail (suc m) run at mark n old new some below word none joins =
    cond-false _ _ _ (lt-leb tail at below)
    ∙ ap (λ w. let s = span_at C tail at (header_with C slots tail w at) in
    if s == 0 then set old (index C at) (header_with C slots tail w at)
    else joined_from C slots tail m (run_of w) (at + s) (with_record C slots tail w at s old)) (sym word)
    ∙ cond-true _ _ _ (eq-eqb _ 0 (sym joins.0 ∙ none)) ∙ sym (joins.1 ∙ cond-true _ _ _ (eq-eqb n 0 none))

-- as many words are those of rings of one capacity
pub same_capacity : (C D n : ℕ) → IsCapacity C → IsCapacity D → n ≡ ring_words C → n ≡ ring_words D → C ≡ D
same_capacity C D n c d ec ed = omega (arith, ec, ed, capacity_blocks C c, capacity_blocks D d)

-- the word at a position is one of the buffer
pub index_inside : (C p : ℕ) → IsCapacity C → index C p < C / 8
index_inside C p lawful =
    let below = mod_below p C (omega (arith, lawful.least)) in omega (arith, below, capacity_blocks C lawful)
