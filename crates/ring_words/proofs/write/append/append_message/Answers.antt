use Rattle.std.proofs.Common.{◌≡◌, length, arith, ap, ◌∙◌, w32}
use Rattle.std.proofs.lemmas.Int.{to_z-of_z}
use Rattle.ring_layout.specs.Headers.{committed_header, header_of}
use Rattle.ring_words.specs.{Ring.ring, Change.written}
use Rattle.ring_words.proofs.AppendLemmas.{appended_with, headed_is, inside, tail_first, written_lawful}
use Rattle.ring_words.proofs.write.append.append_message.Goals as goal

pub store_headers-requires-clause-order : goal.store_headers-requires-clause-order
store_headers-requires-clause-order c =
    tail_first (ring c.args.capacity c.args.words.now) _ (length c.args.body.now) _ _ c.requires.tail
    c.requires.admitted

pub store_bytes-requires : goal.store_bytes-requires
store_bytes-requires c =
    let ok = c.requires.ring in
    let claim = written c.args.type_id c.args.body.now in
    let lawful = written_lawful c.args.capacity c.args.type_id c.args.body.now c.requires.type_id c.ranges.type_id
    c.requires.admitted.short (λ k. omega (arith, c.type_inv.body k)) in
    let within = inside _ claim _ _ ok lawful c.requires.admitted in
    omega (arith, c.word_index-at.ensures, within, c.store_headers.auto.words, ok.length)

pub returns : goal.returns
returns c =
    let ok = c.requires.ring in
    let claim = written c.args.type_id c.args.body.now in
    let lawful = written_lawful c.args.capacity c.args.type_id c.args.body.now c.requires.type_id c.ranges.type_id
    c.requires.admitted.short (λ k. omega (arith, c.type_inv.body k)) in
    let word : c.committed_header-header.result ≡ header_of claim =
    c.committed_header-header.ensures ∙ ap (λ t. committed_header t (length c.args.body.now))
    (to_z-of_z w32 c.args.type_id c.ranges.type_id) in
    let words = c.store_headers.ensures ∙ headed_is _ claim _ _ ok lawful c.requires.admitted
    c.args.admission.tail c.committed_header-header.result c.requires.tail word in
    let stored = rw (c.word_index-at.ensures, words) at c.store_bytes.ensures in
    let both = appended_with _ claim _ _ ok lawful c.requires.admitted c.store_bytes.new.words
    (c.store_bytes.auto.words ∙ ap length words) stored.inside stored.below stored.above in
    record { claimed = both.0; ring = both.1 }
