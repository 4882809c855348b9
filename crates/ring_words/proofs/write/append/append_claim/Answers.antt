use Rattle.std.proofs.Common.{◌≡◌, ℕ, List, slice_set, subst, sym, ◌∙◌}
use Rattle.ring_layout.specs.{Headers.header_of, Layout.tail_index}
use Rattle.ring_words.specs.{Ring.Ring, Ring.ring, Ring.IsRing, Change.AppendsClaim, Change.opened}
use Rattle.ring_words.proofs.AppendLemmas.{appended_empty, headed_is, opened_lawful, opened_header, length-opened, tail_first, zero_words}
use Rattle.ring_words.proofs.write.append.append_claim.Goals as goal

pub store_headers-requires-clause-order : goal.store_headers-requires-clause-order
store_headers-requires-clause-order c =
    tail_first (ring c.args.capacity c.args.words.now) _ c.args.len _ _ c.requires.tail c.requires.admitted

pub returns : goal.returns
returns c =
    let r : Ring = ring c.args.capacity c.args.words.now in
    let claim = opened c.args.type_id c.args.len in
    let place : ℕ = c.args.admission.place in
    let end : ℕ = c.args.admission.end in
    let ok = c.requires.ring in
    let lawful = opened_lawful c.args.capacity c.args.type_id c.args.len c.requires.type_id c.ranges.type_id
    c.requires.admitted.short in
    let word : c.open_header.result ≡ header_of claim =
    c.open_header.ensures ∙ opened_header c.args.type_id c.args.len c.ranges.type_id in
    let admitted = rw (sym (length-opened c.args.type_id c.args.len)) at c.requires.admitted in
    let words = c.store_headers.ensures ∙ headed_is r claim place end ok lawful admitted c.args.admission.tail
    c.open_header.result c.requires.tail word in
    let both = appended_empty r claim place end ok lawful admitted (λ k. zero_words c.args.len k) in
    let now = subst (λ (ws : List ℕ). AppendsClaim r claim (ring r.capacity (slice_set ws (tail_index r.capacity) end))
    × IsRing (ring r.capacity (slice_set ws (tail_index r.capacity) end))) (sym words) both in
    record { claimed = now.0; ring = now.1 }
