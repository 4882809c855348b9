-- The words and the slots of a plain ring with a history, joined, are the words of the history.
use Rattle.std.proofs.Common.{◌≡◌, ◌≢◌, ℕ, zero, suc, ◌+◌, ◌-◌, ◌*◌, ◌/◌, ◌%◌, ◌<◌, ◌≤◌, List, [], ◌∷◌, length, slice_index, ap, sym, ◌∙◌, arith, inl, inr, true, All, if◌then◌else◌, is_none, min, nat_lt, le-ltb, ne_eqb}
use Rattle.std.proofs.lemmas.{Bool.cases_eq, Bool.cases_lt, Bool.cond-false, Bool.cond-true, Nat.mod_below}
use Rattle.std.proofs.lemmas.List.{places, Elements.All-cons, Elements.All-nil}
use Rattle.ring_layout.specs.{Marks.committed_kind, Marks.padding_kind, Picture.claim_word, Picture.word_at}
use Rattle.ring_layout.specs.{declared.message.Claim.Claim, Headers.header, Headers.header_of, Headers.padding_header}
use Rattle.std.proofs.Common.{subst}
use Rattle.ring_layout.specs.{History.span_of, History.IsMessage, Layout.ring_words}
use Rattle.ring_layout.proofs.PictureLemmas.{word_at_padding, word_at_padding_header, word_at_record, word_at_rest}
use Rattle.ring_layout.proofs.PlaceLemmas.{end_of_aligned, end_of_le, next_aligned, next_cases, next_le, next_within, span_bounds}
use Rattle.ring_layout.specs.Places.{end_of, index, next_place, room, IsCapacity}
use Rattle.ring_layout.proofs.CapacityLemmas.{capacity_blocks}
use Rattle.ring_layout.proofs.Laps.{mod_aligned, mod_room, IsLap, IsInLap, index_outside}
use Rattle.ring_snapshot.{specs.Marks.mark_at, specs.Marks.run_of, specs.Marks.HasMark, proofs.JoinLemmas.joined_over}
use Rattle.ring_snapshot.specs.PlainRecords.{ArePlain, HasClaim, HaveClaims}
use Rattle.ring_snapshot.specs.PlainWords.{joined_between, joined_from, with_record, with_zeros}
use Rattle.ring_snapshot.specs.RingRecords.{positions_finding, Lie}
use Rattle.ring_snapshot.proofs.PlainSteps.{Steps, lap, steps_claim, steps_padding}

-- ---- claims

-- the claims are there in all words that agree with these from e on
stable : (C : ℕ) (slots old new : List ℕ) (tail : ℕ) (h : List Claim) (run e : ℕ) → IsLap C → e % 8 ≡ 0
    → ((x : ℕ) → x % 8 ≡ 0 → e ≤ x → x < end_of C e h → slice_index new (index C x) ≡ slice_index old (index C x))
    → HaveClaims C old slots tail run e h → HaveClaims C new slots tail run e h
stable C slots old new tail [] run e lap e8 agree have = tt
stable C slots old new tail (c ∷ h) run e lap e8 agree have =
    let place : ℕ = next_place C e (span_of c) in
    let b = span_bounds (length c.message.body) in
    let le = next_le C e (span_of c) in
    let place8 = next_aligned C e (span_of c) lap.some lap.whole e8 in
    let far = end_of_le C (place + span_of c) h in
    let claim = have.0 in
    let same : mark_at C old run place ≡ mark_at C new run place =
    ap (λ w. if nat_lt place run then run else w) (sym (agree place place8 le (omega (arith, b, far)))) in (
      record {
        padding = λ before. (
          (claim.padding before).0,
          agree e e8 (omega arith) (omega (arith, le, b, far)) ∙ (claim.padding before).1,
        );
        mark = subst (λ mark. HasMark C tail slots place mark c) same claim.mark;
        body = claim.body;
      },
      stable C slots old new tail h (run_of (mark_at C new run place)) (place + span_of c) lap
          (omega (arith, place8, b))
          (λ x x8 from below. agree x x8 (omega (arith, le, b, from)) below)
          (subst (λ mark. HaveClaims C old slots tail (run_of mark) (place + span_of c) h) same have.1),
    )

-- what the walk makes of words: from e on the words of the claims, and the others as they were
record Shows (C : ℕ) (slots : List ℕ) (tail m run e : ℕ) (words : List ℕ) (word : ℕ → ℕ) : Type 0 where
  picture : (p : ℕ) → p % 8 ≡ 0 → e ≤ p → p < tail
      → slice_index (joined_from C slots tail m run e words) (index C p) ≡ word p
  same : (x : ℕ) → x % 8 ≡ 0 → x < e → tail ≤ x + C
      → slice_index (joined_from C slots tail m run e words) (index C x) ≡ slice_index words (index C x)

module _ (C : ℕ) (slots : List ℕ) (tail : ℕ) (ok : IsCapacity C) (many : length slots ≡ C / 8) where
  -- one step, and what comes after it
  after_step : (m run at n header : ℕ) (word shown : ℕ → ℕ) (old new : List ℕ) → at % 8 ≡ 0 → n % 8 ≡ 0 → 0 < n
      → at + n ≤ tail → tail ≤ at + C
      → Steps C slots tail run at n header word old new
      → Shows C slots tail m (run_of (mark_at C old run at)) (at + n) new shown
      → shown at ≡ header → ((k : ℕ) → k % 8 ≡ 0 → 0 < k → k < n → shown (at + k) ≡ word k)
      → Shows C slots tail (suc m) run at old shown
  after_step m run at n header word shown old new at8 n8 some inside near s rest first body = record {
    picture = λ p p8 from below.
        ap (λ w. slice_index w (index C p)) (s.goes m) ∙ elim (cases_lt p (at + n)) as
        (λ _. slice_index (joined_from C slots tail m (run_of (mark_at C old run at)) (at + n) new) (index C p)
        ≡ shown p) [
          | inl lt ↦ rest.same p p8 lt (omega (arith, near, from)) ∙ elim (cases_eq p at) as
              (λ _. slice_index new (index C p) ≡ shown p) [
                | inl e ↦ rw e (s.first ∙ sym first)
                | inr ne ↦
                    let k : ℕ = p - at in
                    let is : at + k ≡ p = omega (arith, from) in
                    let k8 : k % 8 ≡ 0 = omega (arith, p8, at8, from) in
                    let above : 0 < k = omega (arith, from, ne) in
                    let under : k < n = omega (arith, from, lt) in
                    ap (λ q. slice_index new (index C q)) (sym is) ∙ s.body k k8 above under
                    ∙ sym (body k k8 above under) ∙ ap shown is
              ]
          | inr ge ↦ rest.picture p p8 ge below
        ];
    same = λ x x8 lt over.
        ap (λ w. slice_index w (index C x)) (s.goes m)
        ∙ rest.same x x8 (omega (arith, lt)) over
        ∙ s.same x x8 (inl (lt, omega (arith, inside, over)));
  }

  -- the walk from the place of a claim that comes after e, if it is known what comes after the claim
  module _ (c : Claim) (h : List Claim) (e : ℕ) (e8 : e % 8 ≡ 0) (ends : end_of C e (c ∷ h) ≡ tail)
      (near : tail ≤ e + C)
      (rest : (m run : ℕ) (words : List ℕ) → length words ≡ ring_words C
      → tail ≤ next_place C e (span_of c) + span_of c + 8 * m
      → HaveClaims C words slots tail run (next_place C e (span_of c) + span_of c) h
      → Shows C slots tail m run (next_place C e (span_of c) + span_of c) words
      (word_at C (next_place C e (span_of c) + span_of c) h)) where
    abbrev place : ℕ
    place = next_place C e (span_of c)

    abbrev end : ℕ
    end = place + span_of c

    c8 : C % 8 ≡ 0
    c8 = omega (arith, capacity_blocks C ok)

    bounds : (span_of c % 8 ≡ 0) × (8 ≤ span_of c) × (span_of c ≤ length c.message.body + 15)
    bounds = let b = span_bounds (length c.message.body) in (b.0, omega (arith, b), b.2)

    begins : e ≤ place
    begins = next_le C e (span_of c)

    place8 : place % 8 ≡ 0
    place8 = next_aligned C e (span_of c) (omega (arith, ok.least)) c8 e8

    inside : end ≤ tail
    inside = let far = end_of_le C end h in let z : end_of C end h ≡ tail = ends in omega (arith, far, z)

    from_claim : (m run : ℕ) (words : List ℕ) → length words ≡ ring_words C → tail ≤ place + 8 * m
        → HasMark C tail slots place (mark_at C words run place) c
        → ((k : ℕ) → k % 8 ≡ 0 → 0 < k → k < span_of c → slice_index slots (index C (place + k)) ≡ claim_word c k)
        → HaveClaims C words slots tail (run_of (mark_at C words run place)) end h
        → Shows C slots tail m run place words (word_at C e (c ∷ h))
    from_claim zero run words wide enough mark body claims = absurd (omega (arith, enough, inside, bounds))
    from_claim (suc m) run words wide enough mark body claims =
        let short : span_of c ≤ C = let s = mark.lawful.short in omega (arith, s, bounds, ok.least) in
        let within = next_within C e (span_of c) (omega (arith, ok.least)) short in
        let next_run : ℕ = run_of (mark_at C words run place) in
        let new : List ℕ = with_record C slots tail (mark_at C words run place) place (span_of c) words in
        let s = steps_claim C slots tail ok many run place c words wide mark within inside in
        let end8 : end % 8 ≡ 0 = omega (arith, place8, bounds) in
        let next = rest m next_run new (s.wide ∙ wide) (omega (arith, enough, bounds))
        (stable C slots words new tail h next_run end (lap C slots tail ok many) end8
        (λ x x8 from below. s.same x x8 (inr (
          from,
          let z : end_of C end h ≡ tail = ends in
              omega (arith, below, z, near, begins),
        ))) claims) in
        after_step m run place (span_of c) (header_of c) (λ k. slice_index slots (index C (place + k)))
        (word_at C e (c ∷ h)) words new place8 bounds.0 (omega (arith, bounds)) inside (omega (arith, near, begins)) s
        (record {
          picture = λ p p8 from below. next.picture p p8 from below ∙ sym (word_at_rest C e p c h from);
          same = next.same;
        })
        (word_at_record C e place c h (omega arith) (omega (arith, bounds))
        ∙ ap (claim_word c) (let z : place - place ≡ 0 = omega arith in z))
        (λ k k8 above below. word_at_record C e (place + k) c h (omega arith) (omega (arith, below))
        ∙ ap (claim_word c) (let z : place + k - place ≡ k = omega arith in z) ∙ sym (body k k8 above below))

    from_padding : e < place → (m run : ℕ) (words : List ℕ) → length words ≡ ring_words C → tail ≤ e + 8 * m
        → HasClaim C words slots tail run e place c
        → HaveClaims C words slots tail (run_of (mark_at C words run place)) end h
        → Shows C slots tail m run e words (word_at C e (c ∷ h))
    from_padding before zero run words wide enough claim claims =
        absurd (omega (arith, enough, inside, bounds, before))
    from_padding before (suc m) run words wide enough claim claims =
        let pad : ℕ = place - e in
        let is : e + pad ≡ place = omega (arith, begins) in
        let room : (pad ≡ room C e) × (room C e < span_of c) =
        elim (next_cases C e (span_of c)) as (λ _. (place - e ≡ room C e) × (room C e < span_of c)) [
          | inl here ↦ absurd (omega (arith, here.1, before))
          | inr next ↦ (omega (arith, next.1), next.0)
        ] in
        let pad8 : pad % 8 ≡ 0 = omega (arith, e8, place8, begins) in
        let short = claim.mark.lawful.short in
        let below = mod_below e C (omega (arith, ok.least)) in
        let over : run ≤ e = (claim.padding before).0 in
        let pad_mark : mark_at C words run e ≡ e + pad + padding_kind =
        cond-false _ _ _ (le-ltb e run over) ∙ (claim.padding before).1 ∙ ap (λ q. q + padding_kind) (sym is) in
        let next_run : ℕ = run_of (mark_at C words run e) in
        let kind : mark_at C words run e % 8 ≢ committed_kind = λ z. omega (arith, z, pad_mark, e8, pad8) in
        let none : next_run ≡ 0 = cond-false _ _ _ (ne_eqb (mark_at C words run e % 8) committed_kind kind) in
        let new : List ℕ = with_record C slots tail (mark_at C words run e) e pad words in
        let s = steps_padding C slots tail ok many run e pad words wide (e8, pad8)
        (omega (arith, pad8, before), omega (arith, pad8, room, short, bounds, capacity_blocks C ok))
        (omega (arith, room.0, below), omega (arith, is, inside)) pad_mark in
        let kept : (x : ℕ) → x % 8 ≡ 0 → place ≤ x → x < tail
        → slice_index new (index C x) ≡ slice_index words (index C x) =
        λ x x8 from under. s.same x x8 (inr (omega (arith, is, from), omega (arith, under, near))) in
        let same : mark_at C words run place ≡ mark_at C new next_run place =
        cond-false _ _ _ (le-ltb place run (omega (arith, over, begins)))
        ∙ sym (kept place place8 (omega arith) (omega (arith, inside, bounds)))
        ∙ sym (cond-false _ _ _ (le-ltb place next_run (omega (arith, none)))) in
        let first = from_claim m next_run new (s.wide ∙ wide) (omega (arith, enough, before, e8, place8))
        (subst (λ mark. HasMark C tail slots place mark c) same claim.mark) claim.body
        (subst (λ mark. HaveClaims C new slots tail (run_of mark) end h) same
        (stable C slots words new tail h (run_of (mark_at C words run place)) end (lap C slots tail ok many)
        (omega (arith, place8, bounds)) (λ x x8 from under. kept x x8 (omega (arith, from))
        (let z : end_of C end h ≡ tail = ends in omega (arith, under, z))) claims)) in
        after_step m run e pad (padding_header pad) (λ _. 0) (word_at C e (c ∷ h)) words new e8 pad8
        (omega (arith, before)) (omega (arith, is, inside)) near s (rw is first) (word_at_padding_header C e c h before)
        (λ k k8 above under. word_at_padding C e (e + k) c h (omega (arith, is, under)) (λ z. omega (arith, z, above)))

  -- the walk makes the words of the claims
  shows_claims : (h : List Claim) (m run e : ℕ) (words : List ℕ) → length words ≡ ring_words C → e % 8 ≡ 0
      → end_of C e h ≡ tail → tail ≤ e + C → tail ≤ e + 8 * m
      → HaveClaims C words slots tail run e h → Shows C slots tail m run e words (word_at C e h)
  shows_claims [] m run e words wide e8 ends near enough have =
      let over : joined_from C slots tail m run e words ≡ words =
      joined_over C slots tail m run e words (let z : e ≡ tail = ends in omega (arith, z)) in
      record {
        picture = λ p p8 from below. let z : e ≡ tail = ends in absurd (omega (arith, z, from, below));
        same = λ x x8 lt far. ap (λ w. slice_index w (index C x)) over;
      }
  shows_claims (c ∷ h) m run e words wide e8 ends near enough have =
      let end : ℕ = next_place C e (span_of c) + span_of c in
      let b = span_bounds (length c.message.body) in
      let begins = next_le C e (span_of c) in
      let place8 = next_aligned C e (span_of c) (omega (arith, ok.least)) (omega (arith, capacity_blocks C ok)) e8 in
      let rest : (k r : ℕ) (w : List ℕ) → length w ≡ ring_words C → tail ≤ end + 8 * k
      → HaveClaims C w slots tail r end h → Shows C slots tail k r end w (word_at C end h) =
      λ k r w wide' much claims. shows_claims h k r end w wide' (omega (arith, place8, b)) ends
      (omega (arith, near, begins)) much claims in
      elim (cases_lt e (next_place C e (span_of c))) as (λ _. Shows C slots tail m run e words (word_at C e (c ∷ h))) [
        | inl before ↦ from_padding c h e e8 ends near rest before m run words wide enough have.0 have.1
        | inr here ↦
            let is : next_place C e (span_of c) ≡ e = omega (arith, here, begins) in
            subst (λ q. Shows C slots tail m run q words (word_at C e (c ∷ h))) is
            (from_claim c h e e8 ends near rest m run words wide (omega (arith, enough, begins)) have.0.mark have.0.body
            have.1)
      ]

-- ---- the whole

-- zeros from the tail on are not among the words before it
zeros_past : (C : ℕ) (words : List ℕ) (tail n x : ℕ) → IsCapacity C → length words ≡ ring_words C → tail % 8 ≡ 0
    → 8 * n ≤ C → x % 8 ≡ 0 → x < tail → tail + 8 * n ≤ x + C
    → slice_index (with_zeros C tail n words) (index C x) ≡ slice_index words (index C x)
zeros_past C words tail n x ok wide tail8 few x8 below near =
    let lap : IsLap C = record { some = omega (arith, ok.least); whole = omega (arith, capacity_blocks C ok) } in
    let i : ℕ = index C tail in
    let j : ℕ = index C x in
    let first : ℕ = min n (C / 8 - i) in
    let under = mod_below tail C lap.some in
    let low : i < C / 8 = omega (arith, under, lap.whole) in
    let m8 = mod_aligned C tail lap.whole tail8 in
    let itself : IsInLap C x x = record { whole = x8; from = omega arith; below = omega (arith, lap.some) } in
    let least : (first ≤ n) × (first ≤ C / 8 - i) = grind (arith) in
    let out = index_outside C x tail (8 * first) x lap record {
      whole = tail8;
      words = omega arith;
      within = omega (arith, least.1, low, m8, lap.whole);
      from = omega (arith, below);
      to = omega (arith, least.0, near);
    } itself (inl below) in
    let rest : n - first ≤ j = elim (cases_lt first n) as (λ _. n - first ≤ j) [
      | inl more ↦
          let full : first ≡ C / 8 - i = grind (arith, more) in
          let z : ℕ = tail + room C tail in
          let start : z % C ≡ 0 = mod_room C tail lap.some in
          let long : room C tail ≡ 8 * first = omega (arith, full, under, m8, lap.whole) in
          let past = index_outside C x z (8 * (n - first)) x lap record {
            whole = omega (arith, long, tail8);
            words = omega arith;
            within = omega (arith, start, few);
            from = omega (arith, below);
            to = omega (arith, long, more, near);
          } itself (inl (omega (arith, below))) in
          elim past as (λ _. n - first ≤ j) [
            | inl lt ↦ absurd (omega (arith, lt, start))
            | inr ge ↦ omega (arith, ge, start)
          ]
      | inr all ↦ omega (arith, all)
    ] in
    elim out as (λ _. slice_index (with_zeros C tail n words) j ≡ slice_index words j) [
      | inl lt ↦ grind (arith, places, lt, rest, least, low, wide)
      | inr ge ↦ let ge' : i + first ≤ j = omega (arith, ge) in grind (arith, places, ge', rest, least, low, wide)
    ]

zeros_long : (C : ℕ) (words : List ℕ) (tail n : ℕ) → IsCapacity C → length words ≡ ring_words C → 8 * n ≤ C
    → length (with_zeros C tail n words) ≡ length words
zeros_long C words tail n ok wide few =
    let under = mod_below tail C (omega (arith, ok.least)) in
    let low : index C tail < C / 8 = omega (arith, under, capacity_blocks C ok) in
    let least : (min n (C / 8 - index C tail) ≤ n) × (min n (C / 8 - index C tail) ≤ C / 8 - index C tail) =
    grind (arith) in
    grind (arith, places, low, least, wide, few)

-- the messages of the claims are messages
lawful_claims : (C : ℕ) (words slots : List ℕ) (tail : ℕ) (h : List Claim) (run e : ℕ)
    → HaveClaims C words slots tail run e h
    → All (λ c. IsMessage C c.message) h
lawful_claims C words slots tail [] run e have = All-nil (λ (c : Claim). IsMessage C c.message)
lawful_claims C words slots tail (c ∷ h) run e have =
    All-cons (λ (x : Claim). IsMessage C x.message) c h have.0.mark.lawful
    (lawful_claims C words slots tail h (run_of (mark_at C words run (next_place C e (span_of c))))
    (next_place C e (span_of c) + span_of c) have.1)

pub joined_lies : (C : ℕ) (words slots : List ℕ) (tail head : ℕ) (h : List Claim) → IsCapacity C
    → length words ≡ ring_words C → length slots ≡ C / 8 → ArePlain C words slots tail head h
    → Lie C (joined_between C slots head tail words) tail head h
joined_lies C words slots tail head h ok wide many plain =
    let lap : IsLap C = record { some = omega (arith, ok.least); whole = omega (arith, capacity_blocks C ok) } in
    let head8 = plain.aligned in
    let ends = plain.ends in
    let near = plain.near in
    let le : head ≤ tail = omega (arith, ends, end_of_le C head h) in
    let tail8 : tail % 8 ≡ 0 = ap (λ t. t % 8) (sym ends) ∙ end_of_aligned C head h lap.some lap.whole head8 in
    let rest : ℕ = (C - (tail - head)) / 8 in
    let cleared : List ℕ = with_zeros C tail rest words in
    let few : 8 * rest ≤ C = omega arith in
    let whole : tail + 8 * rest ≡ head + C = omega (arith, lap.whole, head8, tail8, le, near) in
    let long : length cleared ≡ ring_words C = zeros_long C words tail rest ok wide few ∙ wide in
    let ordered : is_none (positions_finding C head tail) ≡ true = grind (arith, head8, tail8, le, near) in
    let shows = shows_claims C slots tail ok many h ((tail - head) / 8) 0 head cleared long head8 ends near
    (omega (arith, le, head8, tail8))
    (stable C slots words cleared tail h 0 head lap head8
    (λ x x8 from below. zeros_past C words tail rest x ok wide tail8 few x8 (omega (arith, below, ends))
    (omega (arith, whole, from))) plain.claims) in
    record {
      lawful = lawful_claims C words slots tail h 0 head plain.claims;
      ends = ends;
      picture = λ p p8 from below.
          ap (λ w. slice_index w (index C p)) (cond-true _ (joined_from C slots tail ((tail - head) / 8) 0 head cleared)
          words ordered) ∙ shows.picture p p8 from below;
    }
