-- What the running transmission says of the list that latest shows, by cases on how far it has come.
use Rattle.std.proofs.Common.{◌≡◌, ℕ, suc, ◌+◌, ◌-◌, ◌/◌, ◌%◌, ◌<◌, ◌≤◌, ◌⊎◌, List, [], ◌∷◌, ◌++◌, length, refl, sym, ap, subst, inl, inr, ⊎_elim, arith}
use Rattle.std.proofs.{lemmas.Bool.cases_lt, Math.Option.some, Math.Option.some-ne-none, Math.ListN.get_elem?}
use Rattle.atomic_table.proofs.Lists.{at_longer, at_last, at_snoc}
use Rattle.ring_board.specs.declared.shared.view.{Record.Record, Stage.Stage}
use Rattle.ring_board.specs.declared.shared.view.Stage.TheVariants.{Spent, Idle, Begun, Storing, Written, Shown, Resting, Sure, Headed, Padded, Again, Reading, Behind}
use Rattle.ring_board.specs.Records.{end, Lies, Follows, Chain, end_of, last_of}
use Rattle.ring_board.specs.Rule.{intent, latest, with_latest, Running}
use Rattle.ring_board.proofs.PlaceLemmas.{lies_after, lies_needed, chain_at, chain_last, chain_snoc, end_snoc}

module _ (C e : ℕ) (roomy : 256 ≤ C) (whole : C % 64 ≡ 0) (ws : List ℕ) (sent : List Record) where
  lies_on : (b p z : ℕ) → Lies C (end_of e sent) b p z → end_of e sent ≤ z
  lies_on b p z l = let a = lies_after C (end_of e sent) b p z l roomy whole in let is = l.begins in let so =
      l.some_room in omega arith

  pub intent_after : (st : Stage) → Running C (end_of e sent) ws st → end_of e sent ≤ intent e sent st
  intent_after Idle h = omega arith
  intent_after (Begun d) h = lies_on d.before d.place d.end h.0
  intent_after (Storing d) h = lies_on d.before d.place d.end h.0
  intent_after (Written r) h = lies_on r.before r.place (end r) h.0.fits
  intent_after (Shown r) h = lies_on r.before r.place (end r) h.0.fits
  intent_after Spent h = absurd h
  intent_after Resting h = absurd h
  intent_after Sure h = absurd h
  intent_after (Headed w) h = absurd h
  intent_after (Padded w) h = absurd h
  intent_after (Again w) h = absurd h
  intent_after (Reading w l) h = absurd h
  intent_after Behind h = absurd h

  -- what latest shows is what is sent, and one more once the running record is shown
  latest_list : (P : List Record → Type 0) (st : Stage) → P sent
      → ((r : Record) → st ≡ Shown r → P (sent ++ r ∷ [])) → P (with_latest sent st)
  latest_list P (Shown r) was more = more r refl
  latest_list P Idle was more = was
  latest_list P (Begun d) was more = was
  latest_list P (Storing d) was more = was
  latest_list P (Written r) was more = was
  latest_list P Spent was more = was
  latest_list P Resting was more = was
  latest_list P Sure was more = was
  latest_list P (Headed w) was more = was
  latest_list P (Padded w) was more = was
  latest_list P (Again w) was more = was
  latest_list P (Reading w l) was more = was
  latest_list P Behind was more = was

  -- a record that is shown follows what is sent
  follows : (st : Stage) → Running C (end_of e sent) ws st → (r : Record) → st ≡ Shown r → Follows C (end_of e sent) r
  follows st h r is = (subst (Running C (end_of e sent) ws) is h).0

  -- an entry of what latest shows is sent, or begins at the tail
  pub shown_at : (st : Stage) → Running C (end_of e sent) ws st → (k : ℕ) (q : Record)
      → get_elem? (with_latest sent st) k ≡ some q
      → (get_elem? sent k ≡ some q) ⊎ (Follows C (end_of e sent) q)
  shown_at st h k q =
      latest_list (λ l. get_elem? l k ≡ some q → (get_elem? sent k ≡ some q) ⊎ (Follows C (end_of e sent) q)) st
      (λ at. inl at)
      (λ r is at. ⊎_elim (λ t. inl t) (λ same. inr (subst (Follows C (end_of e sent)) same (follows st h r is)))
      (at_snoc sent r q k at))

  -- what is sent is shown
  pub shown_has : (st : Stage) (k : ℕ) (q : Record) → get_elem? sent k ≡ some q
      → get_elem? (with_latest sent st) k ≡ some q
  shown_has st k q at =
      latest_list (λ l. get_elem? l k ≡ some q) st at (λ r _. at_longer sent (r ∷ []) k q at)

  pub shown_chain : (st : Stage) → Running C (end_of e sent) ws st → Chain C e sent → Chain C e (with_latest sent st)
  shown_chain st h c = latest_list (Chain C e) st c (λ r is. chain_snoc C e sent r c (follows st h r is))

  pub shown_end : (st : Stage) → Running C (end_of e sent) ws st → end_of e sent ≤ end_of e (with_latest sent st)
  shown_end st h = latest_list (λ l. end_of e sent ≤ end_of e l) st (omega arith)
      (λ r is.
      let on = lies_on r.before r.place (end r) (follows st h r is).fits in let s = end_snoc e sent r in omega arith)

  -- latest shows an entry that the intent has not lapped
  abbrev pub IsLatest : Stage → Type 0
  IsLatest st = (k : ℕ) × (q : Record) × (get_elem? (with_latest sent st) k ≡ some q) × (latest e sent st ≡ q.place)
      × (intent e sent st < q.place + C) ×
      (q.place ≤ intent e sent st)

  pub latest_shown : Chain C e sent → (r : Record) (j : ℕ) → get_elem? sent j ≡ some r → (st : Stage)
      → Running C (end_of e sent) ws st → IsLatest st
  latest_shown chain r j on st run = let l = last_entry sent j r on in let k : ℕ = l.0 in let q : Record = l.1 in
      let c = chain_last C roomy whole e sent chain k q l.2 l.3 in
      let f = (chain_at C roomy whole e sent chain k q l.2).0.fits in let sh = f.short in let so =
      f.some_room in let ce = c.0 in
      at_stage st run k q l.2 c.1 ce sh
    where
      last_entry : (l : List Record) (i : ℕ) (a : Record) → get_elem? l i ≡ some a
          → (k : ℕ) × (q : Record) × (get_elem? l k ≡ some q) × (suc k ≡ length l)
      last_entry [] i a g = absurd (some-ne-none a (sym g))
      last_entry (x ∷ []) i a g = (0, x, refl, refl)
      last_entry (x ∷ y ∷ l) i a g = let t = last_entry (y ∷ l) 0 y refl in (suc t.0, t.1, t.2, ap suc t.3)

      near : (b p z from to : ℕ) → Lies C to b p z → to - from ≤ C / 8 + 15 → from ≤ to → (z < from + C) × (from ≤ z)
      near b p z from to l short le = let y = l.begins in let m = lies_needed C to b p z l roomy whole in let d =
          l.short in let so = l.some_room in
          let a = lies_after C to b p z l roomy whole in
          (⊎_elim (λ lt. let x = m lt in omega arith) (λ ge. omega arith) (cases_lt b p), omega arith)

      at_stage : (u : Stage) → Running C (end_of e sent) ws u → (k : ℕ) (q : Record) → get_elem? sent k ≡ some q
          → last_of e sent ≡ q.place
          → end_of e sent ≡ end q → end q - q.place ≤ C / 8 + 15 → IsLatest u
      at_stage Idle g k q on_k la ends sh = (k, q, on_k, la, omega arith, omega arith)
      at_stage (Begun d) g k q on_k la ends sh =
          let n = near d.before d.place d.end q.place (end_of e sent) g.0 (omega arith) (omega arith) in
          (k, q, on_k, la, n.0, n.1)
      at_stage (Storing d) g k q on_k la ends sh =
          let n = near d.before d.place d.end q.place (end_of e sent) g.0 (omega arith) (omega arith) in
          (k, q, on_k, la, n.0, n.1)
      at_stage (Written b) g k q on_k la ends sh =
          let n = near b.before b.place (end b) q.place (end_of e sent) g.0.fits (omega arith)
          (omega arith) in
          (k, q, on_k, la, n.0, n.1)
      at_stage (Shown b) g k q on_k la ends sh = let d = g.0.fits.short in let so = g.0.fits.some_room in
          (length sent, b, at_last sent b (length sent) refl, refl, omega arith, omega arith)
      at_stage Spent g k q on_k la ends sh = absurd g
      at_stage Resting g k q on_k la ends sh = absurd g
      at_stage Sure g k q on_k la ends sh = absurd g
      at_stage (Headed w) g k q on_k la ends sh = absurd g
      at_stage (Padded w) g k q on_k la ends sh = absurd g
      at_stage (Again w) g k q on_k la ends sh = absurd g
      at_stage (Reading w l) g k q on_k la ends sh = absurd g
      at_stage Behind g k q on_k la ends sh = absurd g
