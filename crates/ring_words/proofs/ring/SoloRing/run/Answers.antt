use Rattle.std.proofs.Common.{rules, ◌<◌, List, Some, FitsSigned, arith, sym, subst, inl, inr, w32}
use Rattle.ring_layout.specs.declared.message.Claim.{Claim}
use Rattle.ring_words.specs.{Ring.Ring, Ring.head_of, Ring.Has, Controlled.GoesOn, Controlled.heeded, Reading.Sees}
use Rattle.ring_words.{specs.Open.IsOpen, specs.Read.Broke, proofs.ReadBranches.padding_from}
use Rattle.ring_words.proofs.ReadLemmas.{reads_keeps, reads_on_none, went_on}
use Rattle.ring_words.proofs.ReadTurns.{breaks, goes_on_past, goes_past, goes_to, leaves_it}
use Rattle.ring_words.proofs.ring.SoloRing.run.Given.{Over}
use Rattle.ring_words.proofs.ring.SoloRing.run.Goals.{After-read_end-in-Break}
use Rattle.ring_words.proofs.ring.SoloRing.run.Goals as goal

pub turns-init : goal.turns-init
turns-init g c = (
  reads_on_none (heeded c.args.heeds g.H.Handler.step) c.args.limit c.args.self.now c.args.handler.now,
  c.positions-start.ensures.head,
  omega arith,
  c.requires,
  c.positions-start.ensures.head,
)

pub returns-then-messages-limit-clause-controls : goal.returns-then-messages-limit-clause-controls
returns-then-messages-limit-clause-controls g c =
    inl (went_on c.turns.invariant.0 c.read_end.ensures.messages (search rules))

pub returns-then-messages-limit-clause-claims : goal.returns-then-messages-limit-clause-claims
returns-then-messages-limit-clause-claims g c =
    reads_keeps c.positions-start.ensures.ring c.turns.invariant.0.0

pub returns-then-is_at_end-clause-controls : goal.returns-then-is_at_end-clause-controls
returns-then-is_at_end-clause-controls g c =
    inl (went_on c.turns.invariant.0 c.read_end-then-is_at_end.ensures.messages (search rules))

pub returns-then-is_at_end-clause-claims : goal.returns-then-is_at_end-clause-claims
returns-then-is_at_end-clause-claims g c =
    reads_keeps c.positions-start.ensures.ring c.turns.invariant.0.0

pub returns-in_default-clause-controls : goal.returns-in_default-clause-controls
returns-in_default-clause-controls g c =
    inl (went_on c.turns.invariant.0 c.read_end-in_default.ensures.messages (search rules))

pub returns-in_default-clause-claims : goal.returns-in_default-clause-claims
returns-in_default-clause-claims g c = reads_keeps c.positions-start.ensures.ring c.turns.invariant.0.0

pub turns-preserved-then-settled : goal.turns-preserved-then-settled
turns-preserved-then-settled g c =
    let inv = c.turns.invariant in
    let q = goes_to c.in-Some.ensures.ring inv.0 inv.1 inv.2 c.if-messages-limit.false c.is_at_end.ensures
    c.if-is_at_end.false in
    let fits : FitsSigned w32 c.in-Some.settled.type_id = search rules in (
      goes_past q c.pass-head.ensures.moves c.pass-head.ensures.leaves
          (padding_from c.in-Some.settled.type_id fits c.if-settled.true),
      inv.1,
      inv.2,
      inv.3,
      c.pass-head.ensures.next,
    )

pub turns-smaller-then-settled : goal.turns-smaller-then-settled
turns-smaller-then-settled g c =
    let moves = (turns-preserved-then-settled g c).0.0.moves in
    omega (arith, c.pass-head.ensures.on, moves.within)

pub turns-preserved : goal.turns-preserved
turns-preserved g c =
    let inv = c.turns.invariant in
    let q = goes_to c.in-Some.ensures.ring inv.0 inv.1 inv.2 c.if-messages-limit.false c.is_at_end.ensures
    c.if-is_at_end.false in
    let goes : GoesOn c.show.result = elim c.in-Commit.is as (λ _. GoesOn c.show.result)
    [ inl e ↦ subst GoesOn (sym e) tt | inr e ↦ subst GoesOn (sym e) tt ] in (
      goes_on_past q c.if-settled.false c.show.ensures.same c.show.ensures.shown
          c.pass-head-in-Commit.ensures.moves c.pass-head-in-Commit.ensures.leaves goes,
      inv.1,
      omega (arith, inv.2, c.if-messages-limit.false),
      c.show.ensures.ready,
      c.pass-head-in-Commit.ensures.next,
    )

pub turns-smaller : goal.turns-smaller
turns-smaller g c =
    let on = subst (λ (r : Ring). head_of r < head_of c.pass-head-in-Commit.new.self) c.show.ensures.same
    c.pass-head-in-Commit.ensures.on in
    let moves = (turns-preserved g c).0.0.moves in
    omega (arith, on, moves.within)

-- the read ends after the message that was shown
broken : (g : Over) (c : After-read_end-in-Break g)
    → Broke (heeded c.args.heeds g.H.Handler.step) c.args.limit c.args.self.now c.pass-head-in-Break.new.self
    c.args.handler.now c.show.new.handler c.read_end-in-Break.result
broken g c =
    let inv = c.turns.invariant in
    let q = goes_to c.in-Some.ensures.ring inv.0 inv.1 inv.2 c.if-messages-limit.false c.is_at_end.ensures
    c.if-is_at_end.false in
    let end = c.read_end-in-Break.ensures in
    breaks q c.if-settled.false c.show.ensures.same c.show.ensures.shown
    c.pass-head-in-Break.ensures.moves c.pass-head-in-Break.ensures.leaves c.in-Break.is end.messages end.stopped

pub returns-in-Break-clause-controls : goal.returns-in-Break-clause-controls
returns-in-Break-clause-controls g c = inr (inl (broken g c))

pub returns-in-Break-clause-claims : goal.returns-in-Break-clause-claims
returns-in-Break-clause-claims g c = reads_keeps c.positions-start.ensures.ring (broken g c).reads

pub returns-in-Abort-clause-controls : goal.returns-in-Abort-clause-controls
returns-in-Abort-clause-controls g c =
    let inv = c.turns.invariant in
    let q = goes_to c.in-Some.ensures.ring inv.0 inv.1 inv.2 c.if-messages-limit.false c.is_at_end.ensures
    c.if-is_at_end.false in
    let end = c.read_end-in-Abort.ensures in
    inr (inr (leaves_it q c.if-settled.false c.show.ensures.same c.show.ensures.shown c.in-Some.ensures.sees
    c.in-Abort.is end.messages end.stopped))

pub returns-in-Abort-clause-claims : goal.returns-in-Abort-clause-claims
returns-in-Abort-clause-claims g c = λ t o.
    subst (λ (r : Ring). IsOpen r t) (sym c.show.ensures.same)
    (reads_keeps c.positions-start.ensures.ring c.turns.invariant.0.0 t o)

pub pass-head-requires-in-Break-clause-seen : goal.pass-head-requires-in-Break-clause-seen
pass-head-requires-in-Break-clause-seen g c =
    subst (λ (r : Ring). (h : List Claim) → Has r h → Sees r h (Some c.in-Some.settled))
    (sym c.show.ensures.same) c.in-Some.ensures.sees

pub pass-head-requires-in-Commit-clause-seen : goal.pass-head-requires-in-Commit-clause-seen
pass-head-requires-in-Commit-clause-seen g c =
    subst (λ (r : Ring). (h : List Claim) → Has r h → Sees r h (Some c.in-Some.settled))
    (sym c.show.ensures.same) c.in-Some.ensures.sees
