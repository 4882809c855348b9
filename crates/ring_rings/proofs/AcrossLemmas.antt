-- What a read that goes on past another found, said of both.
use Rattle.std.proofs.Common.{◌≡◌, ℕ, List, [], ◌∷◌, ◌++◌, ap, sym, ◌∙◌, append_assoc}
use Rattle.ring_table.specs.declared.view.View.{View}
use Rattle.ring_layout.specs.Places.{index}
use Rattle.ring_rings.specs.Reading.{FoundUnsettled}

-- u's log is v's with these loads after it
pub blocked_on : (v u w : View) (loads : List (ℕ × ℕ)) → u.log ≡ v.log ++ loads → FoundUnsettled u w
    → FoundUnsettled v w
blocked_on v u w loads more b =
    let last : List (ℕ × ℕ) = (index w.capacity w.consumer.head, b.found) ∷ [] in
    record {
      before = loads ++ b.before;
      found = b.found;
      loads = b.loads ∙ ap (λ (l : List (ℕ × ℕ)). l ++ (b.before ++ last)) more
          ∙ append_assoc v.log loads (b.before ++ last)
          ∙ ap (λ (l : List (ℕ × ℕ)). v.log ++ l) (sym (append_assoc loads b.before last));
      unpublished = b.unpublished;
    }
