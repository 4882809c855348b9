-- Bodies that a raw receiver loads, and validates.
use Rattle.std.proofs.Common.{◌≡◌, ℕ, true, ◌+◌, ◌-◌, ◌*◌, ◌<◌, ◌≤◌, List, [], ◌∷◌, ◌++◌, length, take, get_or, refl, sym, ap, ◌∙◌, subst, ⊎_elim, inl, inr, ◌⊎◌, arith, length-append, append_assoc, w64, ext_get_or, get_or-take, length-take-le, take_all}
use Rattle.std.{specs.Int.to_le_bytes, proofs.Math.Option.some, proofs.Math.ListN.get_elem?}
use Rattle.std.proofs.lemmas.{Bool.cases_lt, List.get_or_append_left, List.get_or-append_right, List.get_or_push}
use Rattle.atomic_table.{specs.Table.keeps, specs.Table.Allows, proofs.Lists.at_longer, proofs.Lists.at_last}
use Rattle.ring_layout.specs.{Places.index, History.overwritten, History.span}
use Rattle.ring_layout.proofs.WordBytes.{overwritten_before, overwritten_inside}
use Rattle.ring_board.specs.declared.shared.view.{Record.Record, Taken.Taken, Stage.TheVariants.Resting}
use Rattle.ring_board.specs.declared.shared.view.{View.View, Load.Load, Load.TheVariants.Word, Load.TheVariants.Intent}
use Rattle.ring_board.specs.{declared.board.RawRecord.RawRecord, Rule.IsBoard, Rule.Holds, Rule.intent}
use Rattle.ring_board.specs.{Seats.IsAnsweredRecord, Layout.intent_index}
use Rattle.ring_board.specs.Records.{end, end_of, words_of_body, word_count, bytes_of, gap}
use Rattle.ring_board.specs.{Views.Sat, Views.logged, ReceiverSteps.LoadsUnread, ReceiverSteps.ChecksAnswered}
use Rattle.ring_board.specs.Bodies.{WasLoaded, WereLoaded, IsLoaded, AreRight, IsRight, GaveBody, Validated}
use Rattle.ring_board.proofs.{StoreLemmas.append_nil, StoreLemmas.at_behind, StoreLemmas.words_long, SeatLemmas.St}
use Rattle.ring_board.proofs.{ByteLemmas.body_back, FoundLemmas.bytes_of_snoc}
use Rattle.ring_board.proofs.LookLemmas.{word_at, load_keeps, word_ok, tail_seen, entry, now}

-- What the log says of a body ------------------------------------------------

module _ (C e : ℕ) (s : St) (by : ℕ) (mine : View) (h : IsBoard C e by mine s) (id : ℕ) (v : View)
    (at : get_elem? s.views id ≡ some v) where
  -- each word of a body that was loaded is the record's, or the intent has passed it
  loaded_right : (r : Record) (k : ℕ) → get_elem? mine.sent k ≡ some r → (j w : ℕ)
      → j < length (words_of_body r.message.body)
      → WasLoaded C v.log (r.place + 8 + 8 * j) w → now C e s by mine h id v at < r.place + C
      → w ≡ get_or (words_of_body r.message.body) j 0
  loaded_right r k on j w lt l below =
      let p : ℕ = r.place + 8 + 8 * j in let y : ℕ × ℕ = (p, get_or (words_of_body r.message.body) j 0) in
      let ok = (h.seated.each id v at).log l.0 (Word (index C p) l.1 w) l.2 in
      ok.1 k r on (length (gap r.before r.place) + j) y (word_at r j lt) refl l.3 (omega arith)

  body_right : (r : Record) (k : ℕ) → get_elem? mine.sent k ≡ some r → (body : List ℕ)
      → length body ≡ length r.message.body
      → IsLoaded C v.log r.place body → now C e s by mine h id v at < r.place + C → body ≡ r.message.body
  body_right r k on body long l lt = let ws : List ℕ = l.0 in let m = r.message in
      let count : length ws ≡ length (words_of_body m.body) =
      l.2 ∙ (ap word_count long ∙ sym (words_long (word_count (length m.body)) m.body)) in
      let same : ws ≡ words_of_body m.body = ext_get_or 0 ws (words_of_body m.body) count
      (λ j in_ws. loaded_right r k on j (get_or ws j 0) (omega arith) (l.1 j in_ws) lt) in
      l.3 ∙ ((λ i. take (long i) (bytes_of (same i)))
      ∙ body_back C m h.lawful.narrow (entry C e s by mine h id v at r k on).0.lawful)

  bodies_right : (x : ℕ) → x ≡ now C e s by mine h id v at → v.capacity ≡ C → AreRight v x
  bodies_right x is size n c body on lt loaded long =
      let q = (h.seated.each id v at).copies.entries n c on in let r : Record = q.1 in let copy = q.3 in
      let place = copy.place in
      body_right r q.0 q.2 body (long ∙ ap (λ m. length m.body) copy.message)
      (subst (λ (y : ℕ × ℕ). IsLoaded y.0 v.log y.1 body) (λ i. (size i, place i)) loaded) (omega arith)
      ∙ sym (ap (λ m. m.body) copy.message)

  -- the tail is beyond the records that were returned
  answered_below : (n : ℕ) (c : Taken) → get_elem? v.copies n ≡ some c
      → c.place + span (length c.message.body) ≤ end_of e mine.sent
  answered_below n c on =
      let q = (h.seated.each id v at).copies.entries n c on in let r : Record = q.1 in let copy = q.3 in
      let below = (entry C e s by mine h id v at r q.0 q.2).2 in
      let same : c.place + span (length c.message.body) ≡ end r =
      λ i. copy.place i + span (length (copy.message i).body) in omega arith

-- The steps --------------------------------------------------------------------

module _ (C e slots id : ℕ) (me : Sat) (i : ℕ) where
  pub loads_unread : me.0.stage ≡ Resting → Allows (Holds C e) slots id me i (λ y. y) (LoadsUnread i me)
  loads_unread eq s b _ at _ = let h = b.2 in let x : ℕ = get_or s.words i 0 in let t : ℕ = end_of e b.1.sent in (
    logged me.0 (Word i t x),
    keeps,
    tt,
    load_keeps C e s b.0 b.1 h id me.0 at eq (Word i t x)
        (word_ok C e s b.0 b.1 h id me.0 at i t x (omega arith) refl) i me.1,
    (t, refl, tail_seen C e s b.0 b.1 h id me.0 at, answered_below C e s b.0 b.1 h id me.0 at),
  )

  pub checks_answered : me.0.stage ≡ Resting → me.0.capacity ≡ C → i ≡ intent_index C
      → Allows (Holds C e) slots id me i (λ y. y) (λ x m'. ChecksAnswered me x m' × (i ≡ intent_index me.0.capacity))
  checks_answered eq size is s b _ at _ = let h = b.2 in let x : ℕ = get_or s.words i 0 in
      let found : x ≡ intent e b.1.sent b.1.stage = ap (λ (j : ℕ). get_or s.words j 0) is ∙ h.memory.intent_is in (
        logged me.0 (Intent x),
        keeps,
        tt,
        load_keeps C e s b.0 b.1 h id me.0 at eq (Intent x) (omega arith) i me.1,
        ((refl, bodies_right C e s b.0 b.1 h id me.0 at x found size), is ∙ sym (ap intent_index size)),
      )

-- Loading a body, word by word ---------------------------------------------------

-- this many words after a place were loaded, and their bytes are at the front of out
abbrev pub LoadedWords : ℕ → ℕ → List ℕ → Sat → Sat → Type 0
LoadedWords place count out m m' =
    (ws : List ℕ) × (loads : List Load) × (m' ≡ (record m.0 { log = m.0.log ++ loads }, m.1)) × (length ws ≡ count)
    × WereLoaded m.0.capacity loads place ws
    × ((i : ℕ) → i < 8 * count → i < length out → get_or out i 0 ≡ get_or (bytes_of ws) i 0)

bytes_long : (ws : List ℕ) → length (bytes_of ws) ≡ 8 * length ws
bytes_long [] = refl
bytes_long (w ∷ ws) = let i = bytes_long ws in length-append (to_le_bytes w64 w) (bytes_of ws) ∙ omega arith

part_long : (n : ℕ) (x : ℕ) → (8 ≤ n × (length (take n (to_le_bytes w64 x)) ≡ 8))
    ⊎ (n < 8 × (length (take n (to_le_bytes w64 x)) ≡ n))
part_long n x = ⊎_elim (λ lt. inr (lt, length-take-le n (to_le_bytes w64 x) (omega arith)))
    (λ le. inl (le, ap length (take_all n (to_le_bytes w64 x) le))) (cases_lt n 8)

module _ (place k x : ℕ) (out : List ℕ) (room : 8 * k < length out) where
  abbrev part : List ℕ
  part = take (length out - 8 * k) (to_le_bytes w64 x)

  part_fits : 8 * k + length part ≤ length out
  part_fits = ⊎_elim (λ t. let a = t.0 in let b = t.1 in omega arith) (λ t. let a = t.0 in let b = t.1 in omega arith)
      (part_long (length out - 8 * k) x)

  -- the bytes of one word more
  front_more : (ws : List ℕ) → length ws ≡ k
      → ((i : ℕ) → i < 8 * k → i < length out → get_or out i 0 ≡ get_or (bytes_of ws) i 0)
      → (i : ℕ) → i < 8 * (k + 1) → i < length out
      → get_or (overwritten (8 * k) part out) i 0 ≡ get_or (bytes_of (ws ++ x ∷ [])) i 0
  front_more ws count old i below inside =
      let long : length (bytes_of ws) ≡ 8 * k = bytes_long ws ∙ ap (λ (n : ℕ). 8 * n) count in let fits = part_fits in
      ⊎_elim (λ lt. overwritten_before (8 * k) part out i fits lt ∙ (old i lt inside
      ∙ sym (get_or_append_left (bytes_of ws) (to_le_bytes w64 x) 0 i (omega arith))))
      (λ le. overwritten_inside (8 * k) part out i fits le
      (⊎_elim (λ t. let b = t.1 in omega arith) (λ t. let b = t.1 in omega arith) (part_long (length out - 8 * k) x))
      ∙ (get_or-take (length out - 8 * k) (to_le_bytes w64 x) (i - 8 * k) 0 (omega arith)
      ∙ sym (get_or-append_right (bytes_of ws) (to_le_bytes w64 x) (8 * k) i 0 long le))) (cases_lt i (8 * k))
      ∙ sym (ap (λ (l : List ℕ). get_or l i 0) (bytes_of_snoc ws x))

  module _ (C t : ℕ) (loads : List Load) (beyond : place + 8 + 8 * k < t) where
    abbrev last : Load
    last = Word (index C (place + 8 + 8 * k)) t x

    words_more : (ws : List ℕ) → length ws ≡ k → WereLoaded C loads place ws
        → WereLoaded C (loads ++ last ∷ []) place (ws ++ x ∷ [])
    words_more ws count old j lt = ⊎_elim
        (λ in_ws. let o = old j in_ws in subst (WasLoaded C (loads ++ last ∷ []) (place + 8 + 8 * j))
        (sym (get_or_append_left ws (x ∷ []) 0 j in_ws))
        (o.0, o.1, at_longer loads (last ∷ []) o.0 _ o.2, o.3))
        (λ past. let long = length-append ws (x ∷ []) in let here : length ws ≡ j = omega arith in let same : k ≡ j =
        omega arith in
        subst (WasLoaded C (loads ++ last ∷ []) (place + 8 + 8 * j)) (sym (get_or_push ws x 0 j here)) (
          length loads,
          t,
          at_last loads last (length loads) refl
              ∙ ap (λ (n : ℕ). some (Word (index C (place + 8 + 8 * n)) t x)) same,
          omega arith,
        ))
        (cases_lt j (length ws))

pub copies_kept : (m m1 : Sat) (loads : List Load) (n : ℕ) (c : Taken)
    → m1 ≡ (record m.0 { log = m.0.log ++ loads }, m.1)
    → get_elem? m.0.copies n ≡ some c → get_elem? m1.0.copies n ≡ some c
copies_kept m m1 loads n c is on = ap (λ (s : Sat). get_elem? s.0.copies n) is ∙ on

-- i is the index of the word number k of a body at a place below the tail t, of which `out` has room
pub record IsWordAt (C place k t i : ℕ) (out : List ℕ) : Type 0 where
  pub index_is : i ≡ index C (place + 8 + 8 * k)
  pub below : place + 8 + 8 * k < t
  pub room : 8 * k < length out

-- one word more was loaded
pub loaded_on : (place k i x t : ℕ) (out out' : List ℕ) (m m1 m2 : Sat) → LoadedWords place k out m m1
    → m2 ≡ (logged m1.0 (Word i t x), m1.1) → IsWordAt m.0.capacity place k t i out
    → out' ≡ overwritten (8 * k) (take (length out - 8 * k) (to_le_bytes w64 x)) out → length out' ≡ length out
    → LoadedWords place (k + 1) out' m m2
loaded_on place k i x t out out' m m1 m2 h is at put same =
    let there = at.index_is in let beyond = at.below in let room = at.room in
    let ws : List ℕ = h.0 in let loads : List Load = h.1 in
    let l : Load = Word i t x in (
      ws ++ x ∷ [],
      loads ++ l ∷ [],
      is ∙ (ap (λ (u : Sat). (logged u.0 l, u.1)) h.2
          ∙ ap (λ (ls : List Load). (record m.0 { log = ls }, m.1)) (append_assoc m.0.log loads (l ∷ []))),
      length-append ws (x ∷ []) ∙ ap (λ (n : ℕ). n + 1) h.3,
      subst (λ (n : ℕ). WereLoaded m.0.capacity (loads ++ Word n t x ∷ []) place (ws ++ x ∷ [])) (sym there)
          (words_more place k x out room m.0.capacity t loads beyond ws h.3 h.4),
      λ b below inside. ap (λ (ls : List ℕ). get_or ls b 0) put
          ∙ front_more place k x out room ws h.3 h.5 b below (omega arith),
    )

-- all of them were
pub loaded_all : (place k : ℕ) (out : List ℕ) (m m' : Sat) → LoadedWords place k out m m' → k ≡ word_count (length out)
    → GaveBody place out m m'
loaded_all place k out m m' h is = let ws : List ℕ = h.0 in let long = bytes_long ws in let count = h.3 in
    let n : length (take (length out) (bytes_of ws)) ≡ length out =
    length-take-le (length out) (bytes_of ws) (omega arith) in (
      h.1,
      h.2,
      (
        ws,
        h.4,
        h.3 ∙ is,
        ext_get_or 0 out (take (length out) (bytes_of ws)) (sym n)
            (λ b lt. h.5 b (omega arith) lt ∙ sym (get_or-take (length out) (bytes_of ws) b 0 lt)),
      ),
    )

-- What stays, and what a validation then says ------------------------------------

word_stays : (C p w : ℕ) (before loads after : List Load) → WasLoaded C loads p w
    → WasLoaded C (before ++ (loads ++ after)) p w
word_stays C p w before loads after h =
    (length before + h.0, h.1, at_behind before (loads ++ after) h.0 _ (at_longer loads after h.0 _ h.2), h.3)

pub loaded_stays : (C place : ℕ) (before loads after : List Load) (body : List ℕ) → IsLoaded C loads place body
    → IsLoaded C (before ++ (loads ++ after)) place body
loaded_stays C place before loads after body h = (h.0, λ j lt. word_stays C _ _ before loads after (h.1 j lt), h.2, h.3)

-- a body that was loaded is in the log
pub loaded_now : (m m' : Sat) (place : ℕ) (body : List ℕ) → GaveBody place body m m'
    → IsLoaded m'.0.capacity m'.0.log place body
loaded_now m m' place body gave = subst (λ (s : Sat). IsLoaded s.0.capacity s.0.log place body) (sym gave.1)
    (subst (λ (l : List Load). IsLoaded m.0.capacity (m.0.log ++ l) place body) (append_nil gave.0)
    (loaded_stays m.0.capacity place m.0.log gave.0 [] body gave.2))

-- a body that was loaded, and then validated, is that of the copy of its record
pub loaded_whole : (m m1 m2 : Sat) (r : RawRecord) (body : List ℕ) → IsAnsweredRecord m1.0 r
    → GaveBody r.place body m m1
    → IsRight m1.0 r → Validated r true m1 m2
    → length body ≡ r.len → (n : ℕ) × (c : Taken) × (get_elem? m2.0.copies n ≡ some c) × (c.place ≡ r.place)
    × (c.message.body ≡ body)
loaded_whole m m1 m2 r body answered gave right valid long = let q = answered.copy in let c : Taken = q.1 in (
  q.0,
  c,
  ap (λ (s : Sat). get_elem? s.0.copies q.0) valid.1 ∙ q.2,
  q.3,
  sym (right q.0 c body q.2 q.3 (loaded_now m m1 r.place body gave) (long ∙ sym q.5)),
)
