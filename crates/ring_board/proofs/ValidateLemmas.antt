-- What a receiver knows once it has validated: a sound header, a whole copy, or that it was lapped.
use Rattle.std.proofs.Common.{◌≡◌, ◌≢◌, ℕ, zero, suc, ◌+◌, ◌-◌, ◌/◌, ◌%◌, ◌^◌, ◌<◌, ◌≤◌, ◌⊎◌, cond, ltb, true, false, List, [], ◌∷◌, ◌++◌, take, length, get_or, refl, sym, ap, ◌∙◌, subst, inl, inr, ⊎_elim, arith, length-append, ltb-true, ltb-false, eqb-true}
use Rattle.std.proofs.lemmas.Bool.{cond_both, eqb-false}
use Rattle.std.proofs.Math.{Option.some, Option.some-injective, Option.some-ne-none, ListN.get_elem?}
use Rattle.atomic_table.{specs.Table.keeps, specs.Table.stepped, proofs.Lists.at_last}
use Rattle.ring_layout.specs.{declared.message.Message.Message, Places.max_position, Headers.padding_header}
use Rattle.ring_layout.{specs.History.span, proofs.ListLemmas.at_below}
use Rattle.ring_board.specs.declared.shared.view.{Record.Record, Taken.Taken, View.View, Stage.Stage}
use Rattle.ring_board.specs.declared.shared.view.Load.{Load, TheVariants.Intent, TheVariants.Latest}
use Rattle.ring_board.specs.declared.shared.view.Stage.TheVariants.{Spent, Idle, Begun, Storing, Written, Shown, Resting, Sure, Headed, Padded, Again, Reading, Behind}
use Rattle.ring_board.specs.Records.{end, words_of_body, word_count, header_of, announced, body_len, is_padding, message_in, message_of}
use Rattle.ring_board.specs.{Runs.IsCopy, Runs.Neighbours, Runs.AreRuns, Views.at_stage, Views.logged}
use Rattle.ring_board.specs.Rule.{Logged, latest, Receives, IsHeader, Knows, IsBoard, Holds}
use Rattle.ring_board.specs.ReceiverSteps.{copy_of, after_copy, passed, validated, IsSound, IsSoundAt, IsUnread, answered, latest_loaded}
use Rattle.ring_board.proofs.PlaceLemmas.{lies_needed, lies_inside, lies_whole, chain_next, chain_last}
use Rattle.ring_board.proofs.{StoreLemmas.words_long, SeatLemmas.St}
use Rattle.ring_board.proofs.ByteLemmas.{announced_header, header_not_padding, padding_kind, message_whole, message_back}
use Rattle.ring_board.proofs.ShownLemmas.{intent_after, shown_has, shown_chain, latest_shown}
use Rattle.ring_board.proofs.LookLemmas.{other_seat, looked, log_more, knows, all, now, same_runs, entry, body_announced, padding_announced}

-- Lists --------------------------------------------------------------------

snoc_cases : {A : Type 0} (l : List A) (y a : A) (i : ℕ) → get_elem? (l ++ y ∷ []) i ≡ some a
    → (get_elem? l i ≡ some a) ⊎ ((i ≡ length l) × (y ≡ a))
snoc_cases [] y a zero e = inr (refl, some-injective y a e)
snoc_cases [] y a (suc i) e = absurd (some-ne-none a (sym e))
snoc_cases (x ∷ xs) y a zero e = inl e
snoc_cases (x ∷ xs) y a (suc i) e = ⊎_elim (λ t. inl t) (λ t. inr (ap suc t.0, t.1)) (snoc_cases xs y a i e)

at_or_end : {A : Type 0} (l : List A) (k : ℕ) (a : A) → get_elem? l k ≡ some a
    → ((b : A) × (get_elem? l (suc k) ≡ some b)) ⊎ (suc k ≡ length l)
at_or_end [] k a e = absurd (some-ne-none a (sym e))
at_or_end (x ∷ []) zero a e = inr refl
at_or_end (x ∷ y ∷ l) zero a e = inl (y, refl)
at_or_end (x ∷ xs) (suc k) a e = ⊎_elim (λ t. inl t) (λ t. inr (ap suc t)) (at_or_end xs k a e)

take_whole : (l : List ℕ) (k : ℕ) → k ≡ length l → take k l ≡ l
take_whole [] zero h = refl
take_whole [] (suc k) h = refl
take_whole (x ∷ xs) zero h = absurd (omega arith)
take_whole (x ∷ xs) (suc k) h = ap (λ m. x ∷ m) (take_whole xs k (omega arith))

module _ (C e : ℕ) (s : St) (by : ℕ) (mine : View) (h : IsBoard C e by mine s) (id : ℕ) (v : View)
    (at : get_elem? s.views id ≡ some v) where
  abbrev here_now : ℕ
  here_now = now C e s by mine h id v at

  abbrev seen : List Record
  seen = all C e s by mine h id v at

  abbrev Kept : ℕ → List (ℕ × (Unit {0})) → View → Type 0
  Kept i cs u = Holds C e (stepped s i (get_or s.words i 0) id cs u keeps)

  -- A failed validation
  behind_kept : id ≢ by → (v.capacity ≡ C) × Receives e mine.sent seen v → (r : Record)
      → get_elem? mine.sent v.next ≡ some r → (log : List Load)
      → v.at + C ≤ here_now → Logged C e mine.sent mine.stage log → (i : ℕ) (cs : List (ℕ × (Unit {0})))
      → Kept i cs (record v { stage = Behind; log = log })
  behind_kept ne receives r on log far logs i cs =
      let capacity = receives.0 in
      let k = receives.1 in
      let w : View = record v { stage = Behind; log = log } in looked C e s by mine h id v at w ne
      (capacity, record { before = k.before; climbs = k.climbs; past = k.past; fresh = k.fresh }, (r, on, far))
      (same_runs C e s by mine h id v at w refl refl) refl logs i cs

  -- A copy
  module _ (m : Message) (log : List Load) (ne : id ≢ by) (capacity : v.capacity ≡ C) (k : Receives e mine.sent seen v)
      (r : Record) (on : get_elem? mine.sent v.next ≡ some r) (there : v.at ≡ r.place) (whole : m ≡ r.message)
      (logs : Logged C e mine.sent mine.stage log) where
    abbrev taken : Taken
    taken = copy_of v m

    is_copy : IsCopy r taken
    is_copy = record { place = there; message = whole }

    ends : v.at + span (length m.body) ≡ end r
    ends = λ j. there j + span (length (whole j).body)

    last_one : (i : ℕ) (c : Taken) → get_elem? (v.copies ++ taken ∷ []) i ≡ some c
        → suc i ≡ length (v.copies ++ taken ∷ []) → taken ≡ c
    last_one i c at_i la =
        let g = length-append v.copies (taken ∷ []) in let there : i ≡ length v.copies = omega arith in
        some-injective taken c (sym (at_last v.copies taken i (sym there)) ∙ at_i)

    copies_run : AreRuns mine.sent v.from (v.copies ++ taken ∷ [])
    copies_run = let old = (h.seated.each id v at).copies in record {
      entries = λ i c on_i. ⊎_elim (λ t. old.entries i c t) (λ t. (v.next, r, on, subst (IsCopy r) t.1 is_copy))
          (snoc_cases v.copies taken c i on_i);
      follow = λ i a b on_a on_b. ⊎_elim
          (λ tb. ⊎_elim (λ ta. old.follow i a b ta tb) (λ ta. let l = at_below v.copies (suc i) b tb in let f = ta.0 in
          absurd (omega arith)) (snoc_cases v.copies taken a i on_a))
          (λ tb. let f = tb.0 in ⊎_elim (λ ta. let p = k.past i a ta tb.0 in let pl =
          p.1 in subst (Neighbours mine.sent a) tb.1 (record {
            rises = pl;
            counts = p.0;
            joined = λ same. let q =
                p.2 same in (q.0, q.1, r, q.3, subst (λ (y : ℕ). get_elem? mine.sent y ≡ some r) q.2 on, q.4, is_copy);
          })) (λ ta. let g = ta.0 in absurd (omega arith)) (snoc_cases v.copies taken a i on_a))
          (snoc_cases v.copies taken b (suc i) on_b);
      first = λ c on_0 zero. ⊎_elim (λ t. old.first c t zero) (λ t. let none : v.copies ≡ [] = empty v.copies t.0 in
          ap (λ (y : Taken). y.place) (sym t.1) ∙ (k.fresh none (ap (λ (y : Taken). y.count) t.1 ∙ zero)).0)
          (snoc_cases v.copies taken c 0 on_0);
    }
      where
        empty : (l : List Taken) → 0 ≡ length l → l ≡ []
        empty [] g = refl
        empty (y ∷ ys) g = absurd (omega arith)

    copy_kept : (i : ℕ) (cs : List (ℕ × (Unit {0}))) → Kept i cs (record (after_copy v m) { log = log })
    copy_kept i cs =
        let u : View = record (after_copy v m) { log = log } in let climbs = k.climbs in let roomy = h.lawful.roomy in
        let on' = shown_has C e h.lawful.roomy h.lawful.whole s.words mine.sent mine.stage v.next r on in
        let ch = shown_chain C e h.lawful.roomy h.lawful.whole s.words mine.sent mine.stage h.memory.running
        h.memory.chain in
        looked C e s by mine h id v at u ne (
          capacity,
          record {
            before = ⊎_elim
                (λ t. inl (
                  t.0,
                  t.1,
                  inr
                      (ends ∙ sym (chain_next C h.lawful.roomy h.lawful.whole e seen ch v.next r t.0 on' t.1)),
                ))
                (λ t. inr (t, ends ∙ sym (chain_last C h.lawful.roomy h.lawful.whole e seen ch v.next r on' t).0))
                (at_or_end seen v.next r on');
            climbs = omega arith;
            past = λ j c on_j la. subst (λ (y : Taken). (y.count ≤ v.count) × (y.place < v.at + span (length m.body)) ×
                (y.count ≡ v.count → (n : ℕ) × (q : Record) × (suc v.next ≡ suc n) × (get_elem? mine.sent n ≡ some q)
                × IsCopy q y))
                (last_one j c on_j la)
                (omega arith, omega arith, λ _. (v.next, r, refl, on, is_copy));
            fresh =
                λ none. let g = ap length none in let f = length-append v.copies (taken ∷ []) in absurd (omega arith);
          },
          tt,
        ) copies_run refl logs i cs

  -- The intent
  abbrev Passes : ℕ → ℕ → List (ℕ × (Unit {0})) → View → Type 0
  Passes x i cs u = Kept i cs (record u { log = u.log ++ Intent x ∷ [] })

  checked : (u : View) (x i : ℕ) (cs : List (ℕ × (Unit {0}))) → x ≡ here_now → v.capacity ≡ C
      → (here_now < v.at + C → Passes x i cs u)
      → (v.at + C ≤ here_now → Passes x i cs (at_stage v Behind))
      → Kept i cs (logged (cond (ltb x (v.at + v.capacity)) u (at_stage v Behind)) (Intent x))
  checked u x i cs is capacity good bad = cond_both (ltb x (v.at + v.capacity)) u (at_stage v Behind) (Passes x i cs)
      (λ t. good (let f = ltb-true x (v.at + v.capacity) t in omega arith))
      (λ t. bad (let f = ltb-false x (v.at + v.capacity) t in omega arith))

  seen_intent : (x : ℕ) → x ≡ here_now → Logged C e mine.sent mine.stage (v.log ++ Intent x ∷ [])
  seen_intent x is = log_more C e s by mine h id v at (Intent x) (omega arith)

  -- a header that is no padding's, and one that is
  plain_header : (r : Record) → get_elem? mine.sent v.next ≡ some r → (w : ℕ) → IsHeader r v.at w → is_padding w ≡ false
      → (v.at ≡ r.place) × (w ≡ header_of r.message)
  plain_header r on w is plain =
      ⊎_elim (λ c. c) (λ c. let lt = padding_announced C e s by mine h id v at r v.next on c.1 in
      let f = (entry C e s by mine h id v at r v.next on).0.fits in let sh = f.short in let g =
      h.lawful.narrow in let roomy = h.lawful.roomy in
      absurd (eqb-false (w / 2 ^ 32) 0xffff_ffff plain
      (ap (λ (y : ℕ). y / 2 ^ 32) c.2 ∙ padding_kind (r.place - r.before) (small r on c.1)))) is
    where
      small : (q : Record) → get_elem? mine.sent v.next ≡ some q → q.before < q.place → q.place - q.before < 2 ^ 31
      small q on_q lt = let f = (entry C e s by mine h id v at q v.next on_q).0.fits in
          let n = lies_needed C q.before q.before q.place (end q) f h.lawful.roomy h.lawful.whole lt in let sh =
          f.short in let g = h.lawful.narrow in omega arith

  pad_header : (r : Record) → get_elem? mine.sent v.next ≡ some r → (w : ℕ) → IsHeader r v.at w → is_padding w ≡ true
      → (v.at ≡ r.before) × (r.before < r.place) × (w ≡ padding_header (r.place - r.before))
  pad_header r on w is pads = ⊎_elim (λ c. let k = eqb-true (w / 2 ^ 32) 0xffff_ffff pads in
      let t = header_not_padding C r.message h.lawful.narrow (entry C e s by mine h id v at r v.next on).0.lawful in
      let same = ap (λ (y : ℕ). y / 2 ^ 32) c.1 in absurd (omega arith)) (λ c. c) is

  sound_at : (r : Record) → get_elem? mine.sent v.next ≡ some r → v.capacity ≡ C → (w : ℕ) → v.at ≡ r.place
      → w ≡ header_of r.message
      → IsSound v.capacity v.at w
  sound_at r on capacity w there head =
      let f = (entry C e s by mine h id v at r v.next on).0 in let n : ℕ = length r.message.body in
      let g = lies_inside C r.before r.before r.place (end r) f.fits h.lawful.roomy h.lawful.whole in let sh =
      f.lawful.short in
      let m : v.at % v.capacity ≡ r.place % C = (λ j. there j % capacity j) in let low = h.memory.low in
      let below = (entry C e s by mine h id v at r v.next on).2 in
      let le = intent_after C e h.lawful.roomy h.lawful.whole s.words mine.sent mine.stage h.memory.running in
      let w8 = lies_whole C r.before r.before r.place (end r) f.fits h.lawful.roomy h.lawful.whole in
      let c8 : v.capacity / 8 ≡ C / 8 = ap (λ (y : ℕ). y / 8) capacity in record {
        message = (
          n,
          ap announced head ∙ announced_header C r.message h.lawful.narrow f.lawful,
          omega arith,
          omega
              arith,
          omega arith,
        );
        whole = omega arith;
      }

  sound_padding : (r : Record) → get_elem? mine.sent v.next ≡ some r → (w : ℕ) → v.at ≡ r.before → r.before < r.place
      → w ≡ padding_header (r.place - r.before) → v.at + announced w ≤ max_position
  sound_padding r on w there lt head =
      let f = entry C e s by mine h id v at r v.next on in let so = f.0.fits.some_room in let low = h.memory.low in
      let below = f.2 in
      let le = intent_after C e h.lawful.roomy h.lawful.whole s.words mine.sent mine.stage h.memory.running in
      let a = ap announced head ∙ padding_announced C e s by mine h id v at r v.next on lt in omega arith

  pub header_intent_keeps : (w : ℕ) → v.stage ≡ Headed w → (x i : ℕ) (cs : List (ℕ × (Unit {0}))) → x ≡ here_now
      → Kept i cs (validated v x)
  header_intent_keeps w eq x i cs is = let k = knows C e s by mine h id v at (Headed w) eq in let t = k.2 in
      let ne = other_seat C e s by mine h id v at (Headed w) eq (λ b. b) in let logs =
      seen_intent x is in checked (passed v v.stage) x i cs is k.0
      (λ lt. subst (λ (st : Stage). Passes x i cs (passed v st)) (sym eq) (
      cond_both (is_padding w) (Padded w) (Reading w []) (λ (st : Stage). Passes x i cs (at_stage v st))
      (λ pads. let u : View = record v { stage = Padded w; log = v.log ++ Intent x ∷ [] } in
      looked C e s by mine h id v at u ne (
        k.0,
        record { before = k.1.before; climbs = k.1.climbs; past = k.1.past; fresh = k.1.fresh },
        (t.0, t.1, pad_header t.0 t.1 w (t.2.1 lt) pads),
      ) (same_runs C e s by mine h id v at u refl refl) refl logs i cs)
      (λ plain. let u : View = record v { stage = Reading w []; log = v.log ++ Intent x ∷ [] } in let c =
      plain_header t.0 t.1 w (t.2.1 lt) plain in
      looked C e s by mine h id v at u ne (
        k.0,
        record { before = k.1.before; climbs = k.1.climbs; past = k.1.past; fresh = k.1.fresh },
        (t.0, t.1, (c.0, c.1, λ _. refl)),
      ) (same_runs C e s by mine h id v at u refl refl) refl logs i cs)))
      (λ far. behind_kept ne (k.0, k.1) t.0 t.1 (v.log ++ Intent x ∷ []) far logs i cs)

  pub behind_intent_keeps : (w : ℕ) → v.stage ≡ Again w → (x i : ℕ) (cs : List (ℕ × (Unit {0}))) → x ≡ here_now
      → Kept i cs (validated v x)
  behind_intent_keeps w eq x i cs is = let k = knows C e s by mine h id v at (Again w) eq in let t = k.2 in
      let ne = other_seat C e s by mine h id v at (Again w) eq (λ b. b) in let logs =
      seen_intent x is in checked (passed v v.stage) x i cs is k.0
      (λ lt. subst (λ (st : Stage). Passes x i cs (passed v st)) (sym eq)
      (let u : View = record v { stage = Reading w []; log = v.log ++ Intent x ∷ [] } in
      looked C e s by mine h id v at u ne (
        k.0,
        record { before = k.1.before; climbs = k.1.climbs; past = k.1.past; fresh = k.1.fresh },
        (t.0, t.1, (t.2.0, t.2.1 lt, λ _. refl)),
      ) (same_runs C e s by mine h id v at u refl refl) refl logs i cs))
      (λ far. behind_kept ne (k.0, k.1) t.0 t.1 (v.log ++ Intent x ∷ []) far logs i cs)

  pub sound_now : (x : ℕ) → x ≡ here_now → x < v.at + v.capacity → (st : Stage) → Knows C e by mine id v st
      → IsSoundAt v st
  sound_now x is lt (Headed w) k = let t = k.2 in let capacity = k.0 in (
    λ plain. let c = plain_header t.0 t.1 w (t.2.1 (omega arith)) plain in sound_at t.0 t.1 k.0 w c.0 c.1,
    λ pads. let c = pad_header t.0 t.1 w (t.2.1 (omega arith)) pads in sound_padding t.0 t.1 w c.0 c.1 c.2,
  )
  sound_now x is lt (Again w) k =
      let t = k.2 in let capacity = k.0 in sound_at t.0 t.1 k.0 w t.2.0 (t.2.1 (omega arith))
  sound_now x is lt Spent k = tt
  sound_now x is lt Idle k = tt
  sound_now x is lt (Begun d) k = tt
  sound_now x is lt (Storing d) k = tt
  sound_now x is lt (Written r) k = tt
  sound_now x is lt (Shown r) k = tt
  sound_now x is lt Resting k = tt
  sound_now x is lt Sure k = tt
  sound_now x is lt (Padded w) k = tt
  sound_now x is lt (Reading w ws) k = tt
  sound_now x is lt Behind k = tt

  -- A record that is returned unread
  pub entry_keeps : (w : ℕ) → IsUnread w v.stage → (x i : ℕ) (cs : List (ℕ × (Unit {0}))) → x ≡ here_now
      → (body : List ℕ) × Kept i cs (answered v w body x)
      × (x < v.at + v.capacity → (length body ≡ body_len w) × IsSound v.capacity v.at w)
  entry_keeps w un x i cs is = ⊎_elim
      (λ q. let k = knows C e s by mine h id v at (Headed w) q.0 in let t = k.2 in
      answer_of k.0 k.1 (other_seat C e s by mine h id v at (Headed w) q.0 (λ b. b)) t.0 t.1
      (λ lt. plain_header t.0 t.1 w (t.2.1 lt) q.1))
      (λ q. let k = knows C e s by mine h id v at (Again w) q in let t = k.2 in
      answer_of k.0 k.1 (other_seat C e s by mine h id v at (Again w) q (λ b. b)) t.0 t.1 (λ lt. (t.2.0, t.2.1 lt))) un
    where
      answer_of : v.capacity ≡ C → Receives e mine.sent seen v → id ≢ by → (r : Record)
          → get_elem? mine.sent v.next ≡ some r
          → (here_now < v.at + C → (v.at ≡ r.place) × (w ≡ header_of r.message))
          → (body : List ℕ) × Kept i cs (answered v w body x)
          × (x < v.at + v.capacity → (length body ≡ body_len w) × IsSound v.capacity v.at w)
      answer_of capacity k ne r on right = let logs = seen_intent x is in let body : List ℕ = r.message.body in
          let f = (entry C e s by mine h id v at r v.next on).0 in (
            body,
            checked (after_copy v (message_of w body)) x i cs is capacity
                (λ lt. copy_kept (message_of w body) (v.log ++ Intent x ∷ []) ne capacity k r on (right lt).0
                (ap (λ (y : ℕ). message_of y body) (right lt).1 ∙ message_whole C r.message h.lawful.narrow f.lawful)
                logs i cs)
                (λ far. behind_kept ne (capacity, k) r on (v.log ++ Intent x ∷ []) far logs i cs),
            λ lt. let q = right (omega arith) in (
              sym (ap body_len q.1 ∙ body_announced C e s by mine h id v at r v.next on),
              sound_at r on capacity w q.0 q.1,
            ),
          )

  pub copy_intent_keeps : (w : ℕ) (ws : List ℕ) → v.stage ≡ Reading w ws → length ws ≡ word_count (body_len w)
      → (x i : ℕ) (cs : List (ℕ × (Unit {0})))
      → x ≡ here_now → Kept i cs (validated v x)
  copy_intent_keeps w ws eq long x i cs is =
      let k = knows C e s by mine h id v at (Reading w ws) eq in let t = k.2 in let r : Record = t.0 in
      let ne = other_seat C e s by mine h id v at (Reading w ws) eq (λ b. b) in let logs = seen_intent x is in
      let f = (entry C e s by mine h id v at r v.next t.1).0 in
      let whole : length ws ≡ length (words_of_body r.message.body) = long
      ∙ (ap (λ (y : ℕ). word_count (body_len y)) t.2.1
      ∙ (ap word_count (body_announced C e s by mine h id v at r v.next t.1)
      ∙ sym (words_long (word_count (length r.message.body)) r.message.body))) in
      checked (passed v v.stage) x i cs is k.0
      (λ lt. subst (λ (st : Stage). Passes x i cs (passed v st)) (sym eq)
      (copy_kept (message_in w ws) (v.log ++ Intent x ∷ []) ne k.0 k.1 r t.1 t.2.0
      ((λ j. message_in (t.2.1 j) ((t.2.2 lt ∙ take_whole (words_of_body r.message.body) (length ws) whole) j))
      ∙ message_back C r.message h.lawful.narrow f.lawful) logs i cs))
      (λ far. behind_kept ne (k.0, k.1) r t.1 (v.log ++ Intent x ∷ []) far logs i cs)

  -- Latest
  pub latest_keeps : v.stage ≡ Behind → (x i : ℕ) (cs : List (ℕ × (Unit {0}))) → x ≡ latest e mine.sent mine.stage
      → (k : ℕ) × Kept i cs (latest_loaded v k x) × (suc v.count ≤ x) × (x ≤ max_position) × (v.at < x)
  latest_keeps eq x i cs is = let kn = knows C e s by mine h id v at Behind eq in let t = kn.2 in let far = t.2 in
      let m = latest_shown C e h.lawful.roomy h.lawful.whole s.words mine.sent h.memory.chain t.0 v.next t.1 mine.stage
      h.memory.running in
      let k : ℕ = m.0 in let q : Record = m.1 in let near = m.4 in let climbs = kn.1.climbs in let there : x ≡ q.place =
      is ∙ m.3 in
      let u : View = latest_loaded v k x in (
        k,
        looked C e s by mine h id v at u (other_seat C e s by mine h id v at Behind eq (λ b. b)) (
          kn.0,
          record {
            before = inl (q, m.2, inl there);
            climbs = omega arith;
            past = λ j c on_j la. let p = kn.1.past j c on_j la in let a = p.0 in let b = p.1 in
                (omega arith, omega arith, λ same. absurd (omega arith));
            fresh = λ _ zero. absurd (omega arith);
          },
          tt,
        ) (same_runs C e s by mine h id v at u refl refl) refl
            (log_more C e s by mine h id v at (Latest x) (omega arith)) i cs,
        omega arith,
        (let y = m.5 in let low = h.memory.low in omega arith),
        omega arith,
      )
