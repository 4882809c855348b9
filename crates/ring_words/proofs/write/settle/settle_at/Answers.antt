use Rattle.std.proofs.Common.{◌≡◌, ◌-◌, ◌/◌, List, ℕ, slice_set, subst, sym, ap, arith}
use Rattle.ring_layout.specs.Places.{index}
use Rattle.ring_words.specs.{Ring.Ring, Ring.ring, Ring.IsRing, Change.ChangesClaim, Change.settled_as}
use Rattle.ring_words.specs.Open.{ClaimAt, IsOpen}
use Rattle.ring_words.proofs.MiddleLemmas.{open_lies, changes, is_ring_changed, stays}
use Rattle.ring_words.proofs.SettleLemmas.{settle_rewrites, settled_stays}
use Rattle.ring_words.proofs.write.settle.settle_at.Goals as goal

pub settled_header-header-requires-clause-short : goal.settled_header-header-requires-clause-short
settled_header-header-requires-clause-short c =
    let l = open_lies (ring c.args.capacity c.args.words.now) c.args.claim.now c.requires.ring c.requires.claim in
    omega (arith, l.short, c.requires.ring.capacity.most)

pub returns : goal.returns
returns c =
    let r : Ring = ring c.args.capacity c.args.words.now in
    let t : ClaimAt = c.args.claim.now in
    let ok = c.requires.ring in
    let word = c.settled_header-header.result in
    let at : c.index.result / 8 - 1 ≡ index c.args.capacity t.place =
    omega (arith, c.index.ensures, c.requires.claim.index) in
    let w = settle_rewrites r t c.args.state word ok c.settled_header-header.ensures in
    let f = settled_as c.args.state in
    let new : List ℕ = slice_set c.args.words.now (index c.args.capacity t.place) word in
    let words : slice_set c.args.words.now (c.index.result / 8 - 1) word ≡ new =
    ap (λ i. slice_set c.args.words.now i word) at in
    record {
      settled = subst (λ (ws : List ℕ). ChangesClaim r t.place f (ring c.args.capacity ws)) (sym words)
          (changes r t f new ok c.requires.claim w);
      ring = subst (λ (ws : List ℕ). IsRing (ring c.args.capacity ws)) (sym words)
          (is_ring_changed r t f new ok c.requires.claim w);
      others = λ d o ne.
          subst (λ (ws : List ℕ). IsOpen (ring c.args.capacity ws) d) (sym words)
          (stays r t f new ok c.requires.claim w d
          (λ x e len here claim. settled_stays c.args.capacity t.place c.args.state d ne x e _ here claim.at_place)
          o);
    }
