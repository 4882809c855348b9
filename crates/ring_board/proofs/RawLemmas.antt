-- What a raw receiver returned, and what it loads of that.
use Rattle.std.proofs.Common.{◌≡◌, ℕ, List, ◌++◌, length, sym, ap, ◌∙◌, subst, refl}
use lib.ListN.{get_elem?}
use Rattle.atomic_table.proofs.Lists.{at_longer, at_last}
use Rattle.ring_board.specs.declared.{shared.view.View.View, shared.view.Taken.Taken, board.RawRecord.RawRecord}
use Rattle.ring_board.specs.{Receiving.GotRecord, Receiving.IsInBuffer, Seats.IsAnsweredRecord, Views.Sat}

-- What was returned ----------------------------------------------------------

pub answered_more : (v w : View) (more : List Taken) (r : RawRecord) → w.capacity ≡ v.capacity
    → w.copies ≡ v.copies ++ more → IsAnsweredRecord v r → IsAnsweredRecord w r
answered_more v w more r size longer h = let q = h.copy in record {
  copy =
      (q.0, q.1, ap (λ (l : List Taken). get_elem? l q.0) longer ∙ at_longer v.copies more q.0 q.1 q.2, q.3, q.4, q.5);
  inside = subst (λ (n : ℕ). IsInBuffer n r) (sym size) h.inside;
}

pub answered_same : (v w : View) (r : RawRecord) → w.capacity ≡ v.capacity → w.copies ≡ v.copies → IsAnsweredRecord v r
    → IsAnsweredRecord w r
answered_same v w r size same h = let q = h.copy in record {
  copy = (q.0, q.1, ap (λ (l : List Taken). get_elem? l q.0) same ∙ q.2, q.3, q.4, q.5);
  inside = subst (λ (n : ℕ). IsInBuffer n r) (sym size) h.inside;
}

-- the record that was returned last
pub answered_last : (m m' : Sat) (r : RawRecord) → GotRecord r m m' → IsInBuffer m.0.capacity r
    → IsAnsweredRecord m'.0 r
answered_last m m' r got inside = let copy = got.1 in
    let taken : Taken = record {
      place = r.place;
      message = record { type_id = r.type_id; body = got.0 };
      count =
          m.0.count;
    } in record {
      copy = (
        length m.0.copies,
        taken,
        ap (λ (s : Sat). get_elem? s.0.copies (length m.0.copies)) copy.1
            ∙ at_last m.0.copies taken (length m.0.copies) refl,
        refl,
        refl,
        got.2,
      );
      inside = subst (λ (n : ℕ). IsInBuffer n r) (sym (ap (λ (s : Sat). s.0.capacity) copy.1)) inside;
    }
