use Rattle.std.proofs.Common.{◌≡◌, ◌++◌, take, ap, sym, ◌∙◌, subst, Some, slice_get, w64}
use Rattle.std.specs.{Int.to_le_bytes, Io.KnownBytes.Appends}
use Rattle.std.proofs.{KnownBytes.Appends-trans, lemmas.Option.slice_get_within, lemmas.Option.get_or_from_slice_get}
use Rattle.ring_board.specs.Records.{bytes_of}
use Rattle.ring_snapshot.proofs.WriteLemmas.{bytes_of-take}
use Rattle.ring_snapshot.proofs.write.write_words.Goals as goal

pub loop-index-preserved : goal.loop-index-preserved
loop-index-preserved g c =
    let words = g.S.Words.words c.args.source.now in
    let i = c.loop-index.index in
    let got : slice_get words i ≡ Some c.in-Some.word = sym c.word_at.ensures ∙ c.in-Some.is in
    let bytes =
    c.to_le_bytes.ensures ∙ ap (to_le_bytes w64) (sym (get_or_from_slice_get words i c.in-Some.word 0 got)) in
    let more = ap (λ b. bytes_of (take i words) ++ b) bytes
    ∙ bytes_of-take words i (slice_get_within words i c.in-Some.word got) in
    subst (Appends _ _) more (Appends-trans _ _ _ _ _ c.loop-index.invariant c.in_ok-write_all.ensures.bytes)
