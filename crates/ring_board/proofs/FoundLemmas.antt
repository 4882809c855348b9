-- What a receiver's steps put together.
use Rattle.std.proofs.Common.{◌≡◌, ℕ, ℤ, ◌+◌, ◌*◌, ◌/◌, ◌%◌, ◌^◌, ◌<◌, ◌≤◌, arith, length, length-append, take, drop, cond, Bool, true, List, [], ◌∷◌, ◌++◌, refl, sym, ap, ◌∙◌, subst, inl, inr, ⊎_elim, append_assoc, lt-ltb, w32, w64, length-take-le}
use Rattle.std.{proofs.Math.Option.some, specs.Int.cast_signed, specs.Int.to_le_bytes, proofs.Math.Seq.take-append_seam}
use Rattle.atomic_table.proofs.Lists.{at_longer}
use Rattle.ring_layout.specs.{History.overwritten, History.span, Places.index, Places.max_position}
use Rattle.ring_board.specs.declared.shared.view.{View.View, Stage.Stage}
use Rattle.ring_board.specs.declared.shared.view.Load.{Load, TheVariants.Word, TheVariants.Intent, TheVariants.Tail}
use Rattle.ring_board.specs.declared.shared.view.Stage.TheVariants.{Resting, Sure, Headed, Padded, Again, Reading, Behind}
use Rattle.ring_board.specs.declared.receiver.found.Found.TheVariants.{Entry}
use Rattle.ring_board.specs.Records.{announced, body_len, is_padding, bytes_of, message_of}
use Rattle.ring_board.specs.Views.{Sat, at_stage, logged, word_load, last_tail}
use Rattle.ring_board.specs.ReceiverSteps.{after_copy, tail_loaded, header_loaded, word_loaded, passed, validated, IsSound, IsSoundAt, IsUnread, header_seen, answered, AnswersEntry}
use Rattle.ring_board.specs.Receiving.{CopiedWords, TookAll, FailedBody, GotCopy, GotMiss, GotRecord, IsInBuffer, ComesTo, FoundIs, NearIs}

passed_after : (v : View) (st : Stage) (x : ℕ) → v.stage ≡ st → x < v.at + v.capacity
    → validated v x ≡ logged (passed v st) (Intent x)
passed_after v st x eq lt = ap (λ (b : Bool). logged (cond b (passed v v.stage) (at_stage v Behind)) (Intent x))
    (lt-ltb x (v.at + v.capacity) lt)
    ∙ ap (λ (u : Stage). logged (passed v u) (Intent x)) eq

-- what was loaded up to the padding
abbrev pub padding_loads : View → ℕ → ℕ → ℕ → ℕ → List Load
padding_loads v t i w x = Tail t ∷ Word i (last_tail (v.log ++ Tail t ∷ []) 0) w ∷ Intent x ∷ []

-- a receiver that saw a tail beyond its place has loaded the header there
pub heard_sure : (m m1 m2 : Sat) (t i w : ℕ) → m1 ≡ (tail_loaded m.0 t, m.1)
    → m2 ≡ (header_loaded m1.0 i m1.0.stage w, m1.1) → m.0.at < t
    → m2 ≡ (header_loaded m1.0 i Sure w, m1.1)
heard_sure m m1 m2 t i w a b lt = b ∙ ap (λ (st : Stage). (header_loaded m1.0 i st w, m1.1))
    (ap (λ (y : Sat). y.0.stage) a ∙ ap (λ (c : Bool). cond c Sure Resting) (lt-ltb m.0.at t lt))

-- the receiver after its padding
pub padded_as : (m m1 m2 m3 : Sat) (t i w x : ℕ) → m1 ≡ (tail_loaded m.0 t, m.1)
    → m2 ≡ (header_loaded m1.0 i Sure w, m1.1) → m3 ≡ (validated m2.0 x, m2.1)
    → (m.0.at < t) × (x < m.0.at + m.0.capacity) → is_padding w ≡ true
    → m3 ≡ (record m.0 { stage = Padded w; log = m.0.log ++ padding_loads m.0 t i w x }, m.1)
padded_as m m1 m2 m3 t i w x a b c near pads =
    let lt = near.1 in
    let l1 : List Load = m.0.log ++ Tail t ∷ [] in let u : Load = Word i (last_tail l1 0) w in
    let l2 : List Load = l1 ++ u ∷ [] in
    let two : m2 ≡ (record m.0 { stage = Headed w; log = l2 }, m.1) =
    b ∙ ap (λ (y : Sat). (header_loaded y.0 i Sure w, y.1)) a in
    let v2 : View = record m.0 { stage = Headed w; log = l2 } in
    c ∙ (ap (λ (y : Sat). (validated y.0 x, y.1)) two ∙
    (ap (λ (p : View). (p, m.1)) (passed_after v2 (Headed w) x refl lt
    ∙ ap (λ (d : Bool). record m.0 { stage = cond d (Padded w) (Reading w []); log = l2 ++ Intent x ∷ [] }) pads)
    ∙ ap (λ (l : List Load). (record m.0 { stage = Padded w; log = l }, m.1))
    (append_assoc l1 (u ∷ []) (Intent x ∷ []) ∙ append_assoc m.0.log (Tail t ∷ []) (u ∷ Intent x ∷ []))))

later_loads : (v : View) (xs ys : List Load) (p : ℕ) → ComesTo v xs p → ComesTo v (xs ++ ys) p
later_loads v xs ys p (inl is) = inl is
later_loads v xs ys p (inr q) =
    inr (q.0, q.1, q.2, at_longer xs ys q.2 (Word (index v.capacity v.at) q.1 q.0) q.3, q.4, q.5)

-- the loads up to the padding show its header
pub padding_seen : (v : View) (C at t w x p : ℕ) → v.capacity ≡ C → v.at ≡ at → is_padding w ≡ true
    → p ≡ at + announced w
    → ComesTo v (padding_loads v t (index C at) w x) p
padding_seen v C at t w x p a b pads to = inr (
  w,
  last_tail (v.log ++ Tail t ∷ []) 0,
  1,
  (λ k. some (Word (index (sym a k) (sym b k)) (last_tail (v.log ++ Tail t ∷ []) 0) w)),
  pads,
  to ∙ ap (λ (y : ℕ). y + announced w) (sym b),
)

-- The header of the next entry -----------------------------------------------

-- an entry after padding
pub near_behind : (m m3 m4 : Sat) (xs : List Load) (j w x p : ℕ)
    → m3 ≡ (record m.0 { stage = Padded w; log = m.0.log ++ xs }, m.1)
    → m4 ≡ (header_loaded m3.0 j m3.0.stage x, m3.1) → m.0.at + announced w ≡ p → ComesTo m.0 xs p → p ≤ max_position
    → NearIs (Entry p x) m m4
near_behind m m3 m4 xs j w x p a b there to low = let u : Load = Word j (last_tail (m.0.log ++ xs) 0) x in (
  xs ++ u ∷ [],
  Again x,
  b ∙ (ap (λ (y : Sat). (header_loaded y.0 j y.0.stage x, y.1)) a
      ∙ (λ k. (record m.0 { stage = Again x; at = there k; log = append_assoc m.0.log xs (u ∷ []) k }, m.1))),
  inr refl,
  later_loads m.0 xs (u ∷ []) p to,
  low,
)

-- the end of padding that was validated
pub padding_low : (m m1 m2 : Sat) (t i w x : ℕ) → m1 ≡ (tail_loaded m.0 t, m.1)
    → m2 ≡ (header_loaded m1.0 i Sure w, m1.1)
    → (x < m2.0.at + m2.0.capacity → IsSoundAt m2.0 m2.0.stage) → x < m.0.at + m.0.capacity → is_padding w ≡ true
    → m.0.at + announced w ≤ max_position
padding_low m m1 m2 t i w x a b sound lt pads = let v : View = header_loaded (tail_loaded m.0 t) i Sure w in
    let k : x < v.at + v.capacity → IsSoundAt v (Headed w) =
    subst (λ (y : Sat). x < y.0.at + y.0.capacity → IsSoundAt y.0 y.0.stage)
    (b ∙ ap (λ (y : Sat). (header_loaded y.0 i Sure w, y.1)) a) sound in
    let q : IsSoundAt v (Headed w) = k lt in q.1 pads

-- Its validation -----------------------------------------------------------

pub unread_header : (st : Stage) (w : ℕ) → IsUnread w st → header_seen st ≡ w
unread_header st w un = ⊎_elim (λ t. ap header_seen t.0) (λ t. ap header_seen t) un

unread_read : (v : View) (st : Stage) (w : ℕ) → IsUnread w st → passed v st ≡ at_stage v (Reading w [])
unread_read v st w un = ⊎_elim (λ t. ap (passed v) t.0
    ∙ ap (λ (b : Bool). at_stage v (cond b (Padded w) (Reading w []))) t.1) (λ t. ap (passed v) t) un

unread_sound : (v : View) (st : Stage) (w : ℕ) → IsUnread w st → IsSoundAt v st → IsSound v.capacity v.at w
unread_sound v st w un h = ⊎_elim
    (λ t. let k : IsSoundAt v (Headed w) = subst (IsSoundAt v) t.0 h in k.0 t.1) (λ t. subst (IsSoundAt v) t h) un

pub unread_found : (m m1 m2 : Sat) (p w x : ℕ) → NearIs (Entry p w) m m1 → m2 ≡ (validated m1.0 x, m1.1)
    → (x < m1.0.at + m1.0.capacity → IsSoundAt m1.0 m1.0.stage) → x < p + m.0.capacity → FoundIs (Entry p w) m m2
unread_found m m1 m2 p w x h is sound lt = let loads : List Load = h.0 in let st : Stage = h.1 in
    let v : View = record m.0 { stage = st; at = p; log = m.0.log ++ loads } in
    let whole = subst (λ (y : Sat). x < y.0.at + y.0.capacity → IsSoundAt y.0 y.0.stage) h.2 sound in (
      loads ++ Intent x ∷ [],
      is ∙ (ap (λ (y : Sat). (validated y.0 x, y.1)) h.2
          ∙ (ap (λ (u : View). (u, m.1)) (passed_after v st x refl lt
          ∙ ap (λ (u : View). logged u (Intent x)) (unread_read v st w h.3))
          ∙ ap (λ (l : List Load). (record m.0 { stage = Reading w []; at = p; log = l }, m.1))
          (append_assoc m.0.log loads (Intent x ∷ [])))),
      later_loads m.0 loads (Intent x ∷ []) p h.4,
      unread_sound v st w h.3 (whole lt),
    )

-- a record that is returned unread
unread_answered : (m m1 m2 : Sat) (p w x : ℕ) (body : List ℕ) → NearIs (Entry p w) m m1
    → m2 ≡ (answered m1.0 (header_seen m1.0.stage) body x, m1.1)
    → x < p + m.0.capacity → GotCopy p (cast_signed w32 (w / 2 ^ 32)) body m m2
unread_answered m m1 m2 p w x body h is lt = let loads : List Load = h.0 in let st : Stage = h.1 in
    let v : View = record m.0 { stage = st; at = p; log = m.0.log ++ loads } in let seen = unread_header st w h.3 in (
      loads ++ Intent x ∷ [],
      is ∙ (ap (λ (y : Sat). (answered y.0 (header_seen y.0.stage) body x, y.1)) h.2
          ∙ (ap (λ (n : ℕ). (answered v n body x, m.1)) seen
          ∙ (ap (λ (b : Bool). (logged (cond b (after_copy v (message_of w body)) (at_stage v Behind)) (Intent x), m.1))
          (lt-ltb x (p + m.0.capacity) lt)
          ∙ ap (λ (l : List Load). (record (after_copy (record m.0 { at = p }) (message_of w body)) { log = l }, m.1))
          (append_assoc m.0.log loads (Intent x ∷ []))))),
      later_loads m.0 loads (Intent x ∷ []) p h.4,
    )

unread_fits : (m m1 : Sat) (p w x : ℕ) (body : List ℕ) → NearIs (Entry p w) m m1
    → (x < m1.0.at + m1.0.capacity → (length body ≡ body_len (header_seen m1.0.stage))
    × IsSound m1.0.capacity m1.0.at (header_seen m1.0.stage))
    → x < p + m.0.capacity → (length body ≡ body_len w) × IsSound m.0.capacity p w
unread_fits m m1 p w x body h fits lt =
    subst (λ (n : ℕ). (length body ≡ body_len n) × IsSound m.0.capacity p n) (unread_header h.1 w h.3)
    (subst (λ (y : Sat). x < y.0.at + y.0.capacity
    → (length body ≡ body_len (header_seen y.0.stage)) × IsSound y.0.capacity y.0.at (header_seen y.0.stage)) h.2
    fits lt)

pub answered_as : (m m1 m2 : Sat) (p w x len : ℕ) (z : ℤ) → NearIs (Entry p w) m m1 → (a : AnswersEntry m1 x m2)
    → x < p + m.0.capacity
    → z ≡ cast_signed w32 (w / 2 ^ 32) → len ≡ body_len w
    → GotRecord record { place = p; type_id = z; len = len } m m2
    × IsInBuffer m.0.capacity record { place = p; type_id = z; len = len }
answered_as m m1 m2 p w x len z h a lt type_is len_is =
    let body : List ℕ = a.0 in let f = unread_fits m m1 p w x body h a.2 lt in let b = f.1.message in
    let count = b.1 in let n : ℕ = b.0 in let same : n ≡ len = omega arith in
    let q = subst (λ (y : ℕ). (p % m.0.capacity + span y ≤ m.0.capacity) × (p + span y ≤ max_position)) same
    (b.3, b.4) in (
      (
        body,
        subst (λ (y : ℤ). GotCopy p y body m m2) (sym type_is) (unread_answered m m1 m2 p w x body h a.1 lt),
        f.0 ∙ sym len_is,
      ),
      (f.1.whole, q.0, q.1),
    )

-- Words that are copied ------------------------------------------------------

pub bytes_of_snoc : (ws : List ℕ) (x : ℕ) → bytes_of (ws ++ x ∷ []) ≡ bytes_of ws ++ to_le_bytes w64 x
bytes_of_snoc [] x = refl
bytes_of_snoc (w ∷ ws) x = ap (λ l. to_le_bytes w64 w ++ l) (bytes_of_snoc ws x)
    ∙ sym (append_assoc (to_le_bytes w64 w) (bytes_of ws) (to_le_bytes w64 x))

-- the front with a word more
front_on : (at x : ℕ) (bytes : List ℕ) → at + 8 ≤ length bytes
    → take (at + 8) (overwritten at (to_le_bytes w64 x) bytes) ≡ take at bytes ++ to_le_bytes w64 x
front_on at x bytes le =
    let front : List ℕ = take at bytes ++ to_le_bytes w64 x in let t = length-take-le at bytes (omega arith) in
    let long : length front ≡ at + 8 = length-append (take at bytes) (to_le_bytes w64 x) ∙ ap (λ (n : ℕ). n + 8) t in
    ap (λ (n : ℕ). take n (overwritten at (to_le_bytes w64 x) bytes)) (sym long)
    ∙ (ap (take (length front)) (sym (append_assoc (take at bytes) (to_le_bytes w64 x) (drop (at + 8) bytes)))
    ∙ take-append_seam front (drop (at + 8) bytes))

-- one word more was copied
pub copied_on : (w k i x : ℕ) (out out' : List ℕ) (m m1 m2 : Sat) → 8 * k + 8 ≤ length out → CopiedWords w k out m m1
    → m2 ≡ (word_loaded m1.0 i x, m1.1) → out' ≡ overwritten (8 * k) (to_le_bytes w64 x) out
    → CopiedWords w (k + 1) out' m m2
copied_on w k i x out out' m m1 m2 room h read put = let ws : List ℕ = h.0 in let loads : List Load = h.1 in
    let v : View = record m.0 { stage = Reading w ws; log = m.0.log ++ loads } in let l : Load = word_load v i x in (
      ws ++ x ∷ [],
      loads ++ l ∷ [],
      read ∙ (ap (λ (u : Sat). (word_loaded u.0 i x, u.1)) h.2
          ∙ ap (λ (ls : List Load). (record m.0 { stage = Reading w (ws ++ x ∷ []); log = ls }, m.1))
          (append_assoc m.0.log loads (l ∷ []))),
      length-append ws (x ∷ []) ∙ ap (λ (n : ℕ). n + 1) h.3,
      (λ j. take (more k j) (put j)) ∙ (front_on (8 * k) x out room
          ∙ (ap (λ (f : List ℕ). f ++ to_le_bytes w64 x) h.4 ∙ sym (bytes_of_snoc ws x))),
    )
  where
    more : (n : ℕ) → 8 * (n + 1) ≡ 8 * n + 8
    more n = omega arith

-- What the calls return ------------------------------------------------------

pub took_from : (m m1 m2 : Sat) (p w len : ℕ) (out : List ℕ) → (f : FoundIs (Entry p w) m m1) → TookAll w len out m1 m2
    → GotCopy p (cast_signed w32 (w / 2 ^ 32)) (take len out) m m2
took_from m m1 m2 p w len out f h = let b : List ℕ = take len out in
    taken_on (subst (λ (u : Sat). TookAll w len out u m2) f.1 h)
  where
    taken_on : TookAll w len out (record m.0 { stage = Reading w []; at = p; log = m.0.log ++ f.0 }, m.1) m2
        → GotCopy p (cast_signed w32 (w / 2 ^ 32)) (take len out) m m2
    taken_on k = (
      f.0 ++ k.0,
      k.1 ∙ ap (λ (l : List Load).
          (record (after_copy (record m.0 { at = p }) (message_of w (take len out))) { log = l }, m.1))
          (append_assoc m.0.log f.0 k.0),
      later_loads m.0 f.0 k.0 p f.2,
    )

pub missed_from : (m m1 m2 : Sat) (p w x : ℕ) → (f : FoundIs (Entry p w) m m1) → FailedBody x m1 m2
    → GotMiss p x m m2
missed_from m m1 m2 p w x f h = missed_on (subst (λ (u : Sat). FailedBody x u m2) f.1 h)
  where
    missed_on : FailedBody x (record m.0 { stage = Reading w []; at = p; log = m.0.log ++ f.0 }, m.1) m2
        → GotMiss p x m m2
    missed_on k = (
      f.0 ++ k.0,
      k.1 ∙ ap (λ (l : List Load). (record m.0 { stage = Behind; at = p; log = l }, m.1))
          (append_assoc m.0.log f.0 (k.0 ++ Intent x ∷ [])
          ∙ ap (λ (l : List Load). m.0.log ++ l) (sym (append_assoc f.0 k.0 (Intent x ∷ [])))),
      later_loads m.0 f.0 k.0 p f.2,
      k.2,
    )
