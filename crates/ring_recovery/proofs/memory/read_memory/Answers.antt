use Rattle.std.proofs.Common.{rules, ◌≡◌, ◌+◌, ◌/◌, length, slice_index, sym, ap, ◌∙◌, Some, None}
use Rattle.std.proofs.lemmas.Result.{err_from_is_err_and}
use Rattle.ring_layout.specs.Layout.{head_index, tail_index}
use Rattle.ring_snapshot.{specs.RingRecords.positions_finding, proofs.JoinLemmas.same_capacity}
use Rattle.ring_recovery.specs.Headers.{all_headers, finding_of, headers_between, headers_finding, messages_of, new_walk, open_of, tail_of}
use Rattle.ring_recovery.proofs.StepLemmas.{finding_is, not_refused_by, refused_by}
use Rattle.ring_recovery.proofs.memory.read_memory.Goals as goal

pub returns-in_err-open_claims-clause-refused : goal.returns-in_err-open_claims-clause-refused
returns-in_err-open_claims-clause-refused c = λ C ok size.
    let D = c.capacity-capacity.result in
    let words = c.args.words.now in
    let slots = c.args.slots.now in
    let h = c.head-head.result in
    let t = c.tail-tail.result in
    let head : h ≡ slice_index words (head_index D) = search rules in
    let tail : t ≡ slice_index words (tail_index D) = search rules in
    let long : length words ≡ D / 8 + 96 = search rules in
    let same : D ≡ C = same_capacity D C (length words) c.capacity-capacity.ensures.lawful ok long size in
    let wide : length slots ≡ D / 8 = search rules in
    let p =
    err_from_is_err_and c.from_residual-in_err-open_claims.result c.from_residual-in_err-open_claims.ensures.1 in
    let positions : positions_finding D h t ≡ None = search rules in
    let headers : headers_finding D t h (headers_between D words slots new_walk h t) ≡ Some p.0 = search rules in
    refused_by (finding_of C words slots) c.from_residual-in_err-open_claims.result p.0
    (sym (ap (λ K. finding_of K words slots) same)
    ∙ finding_is D h t words slots (Some p.0) wide head tail positions headers) p.1

pub returns-clause-refused : goal.returns-clause-refused
returns-clause-refused c = λ C ok size.
    let D = c.capacity-capacity.result in
    let words = c.args.words.now in
    let slots = c.args.slots.now in
    let h = c.head-head.result in
    let t = c.tail-tail.result in
    let head : h ≡ slice_index words (head_index D) = search rules in
    let tail : t ≡ slice_index words (tail_index D) = search rules in
    let long : length words ≡ D / 8 + 96 = search rules in
    let same : D ≡ C = same_capacity D C (length words) c.capacity-capacity.ensures.lawful ok long size in
    let wide : length slots ≡ D / 8 = search rules in
    let positions : positions_finding D h t ≡ None = search rules in
    let headers : headers_finding D t h (headers_between D words slots new_walk h t) ≡ None = search rules in
    not_refused_by (finding_of C words slots) _ (sym (ap (λ K. finding_of K words slots) same)
    ∙ finding_is D h t words slots None wide head tail positions headers)

pub returns-clause-reads : goal.returns-clause-reads
returns-clause-reads c = λ C ok size.
    let D = c.capacity-capacity.result in
    let words = c.args.words.now in
    let slots = c.args.slots.now in
    let h = c.head-head.result in
    let t = c.tail-tail.result in
    let head : h ≡ slice_index words (head_index D) = search rules in
    let tail : t ≡ slice_index words (tail_index D) = search rules in
    let long : length words ≡ D / 8 + 96 = search rules in
    let same : D ≡ C = same_capacity D C (length words) c.capacity-capacity.ensures.lawful ok long size in
    let claims : c.in_ok-open_claims.open_claims ≡ open_of (headers_between D words slots new_walk h t) =
    search rules in
    record {
      capacity = same;
      tail = tail ∙ ap (λ K. tail_of K words) same;
      messages = (λ i. messages_of D slots (tail i) (headers_between D words slots new_walk (head i) (tail i)))
          ∙ ap (λ K. messages_of K slots (tail_of K words) (all_headers K words slots)) same;
      open_claims = claims ∙ (λ i. open_of (headers_between D words slots new_walk (head i) (tail i)))
          ∙ ap (λ K. open_of (all_headers K words slots)) same;
    }
