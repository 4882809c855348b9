use Rattle.std.proofs.Common.{rules, ◌≡◌, ℕ, List, ◌+◌, ◌-◌, ◌*◌, ◌/◌, sym, ap, ◌∙◌, arith, true, false, if◌then◌else◌}
use Rattle.std.proofs.lemmas.Result.{err_from_is_err_and}
use Rattle.ring_recovery.specs.Headers.{found_at, headers_finding, headers_in, is_open, open_of}
use Rattle.ring_recovery.specs.declared.mark.{Found.Found, Walk.Walk}
use Rattle.ring_recovery.proofs.StepLemmas.{finds_header, goes_on, passes_zero, refused_by, stops}
use Rattle.ring_recovery.proofs.memory.check_headers.Goals as goal
use Rattle.ring_recovery.proofs.memory.check_headers.Goals.{then-found-ne0+in_ok-end+then-is_open, then-found-ne0+in_ok-end+else-is_open, else-found-ne0}

pub returns-in_err-end-clause-refused : goal.returns-in_err-end-clause-refused
returns-in_err-end-clause-refused c =
    let C = c.args.capacity in
    let tail = c.args.tail in
    let n : ℕ = (tail - c.args.head) / 8 - c.loop-k.k in
    let m : ℕ = (tail - c.args.head) / 8 - (c.loop-k.k + 1) in
    let at : ℕ = c.args.head + 8 * c.loop-k.k in
    let next : ℕ = c.args.head + 8 * (c.loop-k.k + 1) in
    let less : n ≡ m + 1 = omega arith in
    let far : next ≡ at + 8 = omega arith in
    let found : Walk → ℕ → Found = found_at C c.args.words.now c.args.slots.now in
    let f : Found = c.found_at-found.result in
    let p = err_from_is_err_and c.from_residual.result c.from_residual.ensures.1 in
    refused_by _ c.from_residual.result p.0
    (sym c.loop-k.invariant.rest
    ∙ ap (headers_finding C tail c.loop-k.end)
    (finds_header found c.loop-k.walk n m at next f less far (sym c.found_at-found.ensures) (search rules))
    ∙ stops C tail c.loop-k.end at f.header (headers_in found m f.walk next) c.check_header.result (search rules) p.0
    (search rules))
    p.1

pub loop-k-preserved : goal.loop-k-preserved
loop-k-preserved c =
    let C = c.args.capacity in
    let tail = c.args.tail in
    let n : ℕ = (tail - c.args.head) / 8 - c.loop-k.k in
    let m : ℕ = (tail - c.args.head) / 8 - (c.loop-k.k + 1) in
    let at : ℕ = c.args.head + 8 * c.loop-k.k in
    let next : ℕ = c.args.head + 8 * (c.loop-k.k + 1) in
    let less : n ≡ m + 1 = omega arith in
    let far : next ≡ at + 8 = omega arith in
    let found : Walk → ℕ → Found = found_at C c.args.words.now c.args.slots.now in
    let f : Found = c.found_at-found.result in
    let rest : List (ℕ × ℕ) = headers_in found m f.walk next in
    let few = c.loop-k.invariant.few in
    let count = c.loop-k.invariant.claims in
    elim c.if-found-ne0.branch [
      | then-found-ne0+in_ok-end+then-is_open v ↦
          let here = finds_header found c.loop-k.walk n m at next f less far (sym c.found_at-found.ensures) (search rules)
          in
          let one : is_open f.header ≡ true = search rules in
          let claims = ap open_of here ∙ ap (λ b. (if b then 1 else 0) + open_of rest) one in
          record {
            rest = ap (λ e. headers_finding C tail e rest) v.end-is
                ∙ sym (ap (headers_finding C tail c.loop-k.end) here
                ∙ goes_on C tail c.loop-k.end at f.header rest v.check_header.result (search rules)
                v.in_ok-end.end (search rules) (search rules)) ∙ c.loop-k.invariant.rest;
            claims = omega (arith, claims, count, v.claims-is);
            few = omega (arith, v.claims-is);
          }
      | then-found-ne0+in_ok-end+else-is_open v ↦
          let here = finds_header found c.loop-k.walk n m at next f less far (sym c.found_at-found.ensures) (search rules)
          in
          let none : is_open f.header ≡ false = search rules in
          let claims = ap open_of here ∙ ap (λ b. (if b then 1 else 0) + open_of rest) none in
          record {
            rest = ap (λ e. headers_finding C tail e rest) v.end-is
                ∙ sym (ap (headers_finding C tail c.loop-k.end) here
                ∙ goes_on C tail c.loop-k.end at f.header rest v.check_header.result (search rules)
                v.in_ok-end.end (search rules) (search rules)) ∙ c.loop-k.invariant.rest;
            claims = omega (arith, claims, count, v.claims-is);
            few = omega (arith, v.claims-is);
          }
      | else-found-ne0 v ↦
          let passed = passes_zero found c.loop-k.walk n m at next f less far (sym c.found_at-found.ensures) (search rules)
          in
          record {
            rest = ap (λ e. headers_finding C tail e rest) v.end-is
                ∙ sym (ap (headers_finding C tail c.loop-k.end) passed) ∙ c.loop-k.invariant.rest;
            claims = omega (arith, ap open_of passed, count, v.claims-is);
            few = omega (arith, v.claims-is);
          }
    ]
