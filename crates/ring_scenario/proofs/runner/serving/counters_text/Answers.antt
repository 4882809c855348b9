use Rattle.std.proofs.Common.{◌≡◌, ◌∙◌, ◌<◌, ◌≤◌, ◌+◌, ℕ, List, [], ◌++◌, ap, arith, flat_map, get_or, length, take, take_all}
use Rattle.std.proofs.lemmas.List.{flat_map_more, take_more}
use Rattle.ring_counters.specs.declared.info.CounterInfo.{CounterInfo}
use Rattle.ring_scenario.specs.ServiceTexts.{counter_text}
use Rattle.ring_scenario.proofs.runner.serving.counters_text.Goals as goal

-- one more line
one_more : (f : CounterInfo → List ℕ) (infos : List CounterInfo) (i : ℕ) (x : CounterInfo) (old line new : List ℕ)
    → i < length infos → x ≡ get_or infos i x → old ≡ flat_map f (take i infos) → line ≡ f x → new ≡ old ++ line
    → new ≡ flat_map f (take (i + 1) infos)
one_more f infos i x old line new inside at before shown pushed =
    let more = take_more infos i x inside in
    let joined = flat_map_more f [] (take i infos) x in
    cc

-- the last line
and_last : (f : CounterInfo → List ℕ) (infos : List CounterInfo) (i : ℕ) (old last new : List ℕ)
    → length infos ≤ i → old ≡ flat_map f (take i infos) → new ≡ old ++ last → new ≡ flat_map f infos ++ last
and_last f infos i old last new most before pushed =
    let whole = take_all i infos most in
    cc

pub loop-info-preserved : goal.loop-info-preserved
loop-info-preserved c =
    one_more counter_text c.args.infos.now c.loop-info.info-index c.info-item.result _ _ _ (omega arith)
    c.info-item.is c.loop-info.invariant (c.as_str.ensures.value ∙ c.in_ok-line.ensures)
    c.in_ok-push_str.ensures.bytes

pub returns : goal.returns
returns c =
    and_last counter_text c.args.infos.now c.loop-info.info-index _ _ _ (omega arith) c.loop-info.invariant
    c.in_ok-push_str-2.ensures.bytes
    ∙ ap (λ (last : List ℕ). flat_map counter_text c.args.infos.now ++ last)
    (c.as_str-2.ensures.value ∙ c.in_ok-last.ensures.ok)
