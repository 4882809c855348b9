-- How a read that its handler controls leaves the consumer, why it took nothing, and two reads as one.
use Rattle.std.proofs.Common.{◌≡◌, ◌⊎◌, false, inl, inr, ℕ, ◌+◌, ◌%◌, ◌&&◌, ◌==◌, nat_lt, if◌then◌else◌, List, ◌++◌, arith, sym, ap, ◌∙◌, subst, eqb-true, ltb-true, append_assoc}
use Rattle.std.proofs.lemmas.Bool.{and_parts, cases_Bool, cond-true, cond-false}
use Rattle.ring_layout.specs.declared.message.Message.{Message}
use Rattle.ring_words.specs.declared.read.{action.Action.Action, end.ReadEnd.ReadEnd}
use Rattle.ring_words.specs.declared.read.end.Stop.{Stop, TheVariants.Limit, TheVariants.Block, TheVariants.Unpublished}
use Rattle.ring_table.specs.declared.view.View.{View}
use Rattle.ring_rings.specs.Reading.{Controls, FoundUnsettled, IsNext, MovesHead, WentOn}
use Rattle.ring_ends.specs.Next.{CameToEnd, HadNone, RanOut, ReadsOn, TookNone}

-- no settled record was at the new head, or the read came to the end of the buffer
abbrev Ended : Stop → View → View → Type 0
Ended stopped v w = ((stopped ≡ Unpublished) × FoundUnsettled v w) ⊎ ((stopped ≡ Block) × CameToEnd v w)

module _ {S : Type 0} (step : S → Message → S → Action → Type 0) (limit : ℕ) (v w : View) (s t : S)
    (end : ReadEnd) where
  moves_head : Controls step limit v w s t end → MovesHead v w
  moves_head (inl on) = on.reads.reads.moves
  moves_head (inr (inl broke)) = broke.reads.reads.moves
  moves_head (inr (inr aborts)) = aborts.reads.reads.moves

  pub reads_on : Controls step limit v w s t end → ReadsOn v w
  reads_on controls =
      let m = moves_head controls in
      record {
        loads = m.loads;
        view = m.view;
        on = m.on;
        heartbeats = m.heartbeats;
        cleared = m.cleared;
        rest = m.rest;
      }

  -- below its limit a read that nothing stopped ended at a head without a settled record, or at the end of the buffer
  stopped_so : WentOn step limit v w s t end → (end.messages == limit) ≡ false
      → v.consumer.head + end.bytes ≡ w.consumer.head → (end.stopped ≡ Unpublished → FoundUnsettled v w)
      → Ended end.stopped v w
  stopped_so on more bytes blocked =
      let zero_there = w.consumer.head % w.capacity == 0 in
      let at_end = zero_there && nat_lt 0 end.bytes in
      let rest : Stop = if at_end then Block else Unpublished in
      let below : end.stopped ≡ rest = on.stopped
      ∙ cond-false (end.messages == limit) Limit rest more in
      elim (cases_Bool at_end) as (λ _. Ended end.stopped v w) [
        | inl e ↦
            let both = and_parts zero_there (nat_lt 0 end.bytes) e in
            let passed = ltb-true 0 end.bytes both.1 in
            inr (
              below ∙ cond-true at_end Block Unpublished e,
              record { on = omega arith; end = eqb-true (w.consumer.head % w.capacity) 0 both.0 },
            )
        | inr e ↦
            let is = below ∙ cond-false at_end Block Unpublished e in
            inl (is, blocked is)
      ]

  -- a read that nothing stopped took as many messages as it may, or ended so
  pub over : WentOn step limit v w s t end → v.consumer.head + end.bytes ≡ w.consumer.head
      → (end.stopped ≡ Unpublished → FoundUnsettled v w) → (end.messages ≡ limit) ⊎ Ended end.stopped v w
  over on bytes blocked =
      elim (cases_Bool (end.messages == limit)) as (λ _. (end.messages ≡ limit) ⊎ Ended end.stopped v w) [
        | inl all ↦ inl (eqb-true end.messages limit all)
        | inr more ↦ inr (stopped_so on more bytes blocked)
      ]

  pub ran_out : WentOn step limit v w s t end → end.messages ≡ 0
      → v.consumer.head + end.bytes ≡ w.consumer.head → (end.stopped ≡ Unpublished → FoundUnsettled v w)
      → RanOut limit end.stopped v w
  ran_out on none bytes blocked =
      elim (over on bytes blocked) as (λ _. RanOut limit end.stopped v w) [
        | inl all ↦ inl (sym all ∙ none)
        | inr end_of ↦ inr end_of
      ]

-- Two reads ----------------------------------------------------------------------

abbrev Loads : Type 0
Loads = List (ℕ × ℕ)

longer : (x y z l before last : Loads) → y ≡ x ++ l → z ≡ y ++ (before ++ last) → z ≡ x ++ ((l ++ before) ++ last)
longer x y z l before last first second =
    second ∙ ap (λ (a : Loads). a ++ (before ++ last)) first ∙ append_assoc x l (before ++ last)
    ∙ ap (λ (a : Loads). x ++ a) (sym (append_assoc l before last))

module _ (v u w : View) (first : ReadsOn v u) where
  log_on : u.log ≡ v.log ++ first.loads
  log_on = ap (λ (x : View). x.log) first.view

  pub capacity_on : u.capacity ≡ v.capacity
  capacity_on = ap (λ (x : View). x.capacity) first.view

  pub blocked_on : FoundUnsettled u w → FoundUnsettled v w
  blocked_on b = record {
    before = first.loads ++ b.before;
    found = b.found;
    loads = longer v.log u.log w.log first.loads b.before _ log_on b.loads;
    unpublished = b.unpublished;
  }

  pub next_on : (m : Message) → IsNext u w m → IsNext v w m
  next_on m n = record {
    before = first.loads ++ n.before;
    loads = longer v.log u.log w.log first.loads n.before _ log_on n.loads;
    lawful = n.lawful;
  }

  pub both : ReadsOn u w → ReadsOn v w
  both second = record {
    loads = first.loads ++ second.loads;
    view = second.view
        ∙ ap (λ (x : View). record x { log = x.log ++ second.loads; consumer = w.consumer }) first.view
        ∙ ap (λ (l : Loads). record v { log = l; consumer = w.consumer })
        (append_assoc v.log first.loads second.loads);
    on = omega (arith, first.on, second.on);
    heartbeats = second.heartbeats ∙ first.heartbeats;
    cleared = second.cleared;
    rest = second.rest;
  }

-- Why nothing was taken -----------------------------------------------------------

-- one read that did, and another
pub twice : (limit : ℕ) (one two : Stop) (v u w : View) → ReadsOn v u → ReadsOn u w → one ≡ Block
    → RanOut limit one v u → RanOut limit two u w → HadNone limit v w
twice limit one two v u w first second is (inl zero) out = inl zero
twice limit one two v u w first second is (inr (inl found)) out = absurd (other is found.0)
  where
    other : one ≡ Block → one ≡ Unpublished → ⊥
    other e f = cc
twice limit one two v u w first second is (inr (inr ended)) (inl zero) = inl zero
twice limit one two v u w first second is (inr (inr ended)) (inr (inl found)) =
    inr (inl (blocked_on v u w first found.1))
twice limit one two v u w first second is (inr (inr ended)) (inr (inr again)) = inr (inr (record {
  between = u.consumer.head;
  on = ended.1.on;
  end = subst (λ (C : ℕ). u.consumer.head % C ≡ 0) (capacity_on v u w first) ended.1.end;
  further = again.1.on;
  last = subst (λ (C : ℕ). w.consumer.head % C ≡ 0)
      (capacity_on u w w second ∙ capacity_on v u w first) again.1.end;
}))

-- nothing was taken by one read, which came to the end of the buffer, and nothing by another
pub none_twice : (limit : ℕ) (one two : Stop) (v u w : View) → ReadsOn v u → ReadsOn u w → one ≡ Block
    → TookNone (RanOut limit one) v u → TookNone (RanOut limit two) u w → TookNone (HadNone limit) v w
none_twice limit one two v u w first second is none again = record {
  taken = again.taken ∙ none.taken;
  why = twice limit one two v u w first second is none.why again.why;
}
