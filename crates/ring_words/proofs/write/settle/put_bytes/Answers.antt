use Rattle.std.proofs.Common.{◌≡◌, ℕ, ◌+◌, ◌/◌, ◌<◌, List, All, arith}
use Rattle.std.proofs.lemmas.List.Elements.{All-from_get_or}
use Rattle.ring_layout.specs.Places.{index}
use Rattle.ring_words.specs.{Ring.Ring, Ring.ring, Open.ClaimAt, Change.put_into}
use Rattle.ring_words.proofs.MiddleLemmas.{open_lies, changes, is_ring_changed, stays}
use Rattle.ring_words.proofs.SettleLemmas.{put_rewrites, put_stays}
use Rattle.ring_words.proofs.write.settle.put_bytes.Goals as goal

pub overwrite_body-requires : goal.overwrite_body-requires
overwrite_body-requires c =
    let l = open_lies (ring c.args.capacity c.args.words.now) c.args.claim.now c.requires.ring c.requires.claim in
    omega (arith, l.within, c.requires.ring.length, c.requires.range, c.index.ensures, c.requires.claim.index)

pub returns : goal.returns
returns c =
    let r : Ring = ring c.args.capacity c.args.words.now in
    let t : ClaimAt = c.args.claim.now in
    let bytes : List ℕ = c.args.bytes.now in
    let new : List ℕ = c.overwrite_body.new.words in
    let ok = c.requires.ring in
    let at : c.index.result / 8 ≡ index c.args.capacity t.place + 1 =
    omega (arith, c.index.ensures, c.requires.claim.index) in
    let small : All (λ b. b < 256) bytes =
    All-from_get_or (λ (b : ℕ). b < 256) bytes 0 (λ i h. omega (arith, c.type_inv.bytes i)) in
    let stored = rw at at c.overwrite_body.ensures in
    let w = put_rewrites r t c.args.offset bytes new c.requires.range small c.overwrite_body.auto.words stored.inside
    stored.below stored.above in
    let f = put_into c.args.offset bytes in
    record {
      put = changes r t f new ok c.requires.claim w;
      ring = is_ring_changed r t f new ok c.requires.claim w;
      claims = λ d o. stays r t f new ok c.requires.claim w d
          (λ x e len here claim. put_stays c.args.capacity e t.len c.args.offset bytes x d c.requires.range len claim)
          o;
    }
