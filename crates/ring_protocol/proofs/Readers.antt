-- A field that is read is the field that was written, and what was written is read again.
use Rattle.std.proofs.Common.{◌≡◌, ℕ, ℤ, ◌^◌, ◌<◌, ◌≤◌, Bool, true, false, cond, ltb, eqb, List, [], ◌++◌, length, get_or, take, drop, Option, Some, None, Ok, FitsSigned, Fits, refl, sym, ap, subst, ◌∙◌, append_assoc, arith, inl, inr, w32, w64, to_z-of_z, ltb-false, le-ltb, eqb-true, take_at, drop_at, take-append-drop, length-append, length-take, append-nil}
use Rattle.std.specs.Int.{Width, to_le_bytes, from_le_bytes, cast_signed, cast_unsigned}
use Rattle.std.proofs.Math.Facts.{sfits_to_z, Fits-of_z, of_z-to_z}
use Rattle.std.proofs.lemmas.{Bool.cases_lt, List.Elements.All-take, List.Elements.All-drop, List.Elements.All-get_or}
use Rattle.std.proofs.lemmas.{List.get_or_past, List.nil_from_length, Option.cond_some}
use Rattle.std.proofs.lemmas.Nat.{le_bytes_4, le_bytes_8, from_le_bytes-to_le_bytes_4, from_le_bytes-to_le_bytes_8}
use Rattle.ring_protocol.specs.Bad.{or_malformed}
use Rattle.ring_protocol.specs.Field.{AreBytes, IsSized, Reader, ◌>>=◌, ◌⊗◌, whole, u32_field, u64_field, i32_field, i64_field, sized_field, u32_at, u64_at, i32_at, i64_at, sized_at}

-- what a reader took from the front of bytes
pub record Takes {V : Type 0} (InRange : V → Type 0) (field : V → List ℕ) (bytes : List ℕ)
    (read : V × List ℕ) : Type 0 where
  pub in_range : InRange read.0
  pub parts : bytes ≡ field read.0 ++ read.1
  pub rest : AreBytes read.1

-- a reader reads the fields that are spelled so, and no others
pub record IsReaderOf {V : Type 0} (InRange : V → Type 0) (field : V → List ℕ) (reader : Reader V) : Type 0 where
  pub takes : (bytes : List ℕ) (read : V × List ℕ) → AreBytes bytes → reader bytes ≡ Some read
      → Takes InRange field bytes read
  pub again : (v : V) (rest : List ℕ) → InRange v → reader (field v ++ rest) ≡ Some (v, rest)

-- ---- steps that may fail

pub bind_some : {A B : Type 0} (r : Option A) (f : A → Option B) (y : B) → (r >>= f) ≡ Some y
    → (x : A) × (r ≡ Some x) × (f x ≡ Some y)
bind_some (Some x) f y e = (x, refl, e)
bind_some None f y e = absurd cc

pub guard_some : {A : Type 0} (b : Bool) (x y : A) → cond b None (Some x) ≡ Some y → (b ≡ false) × (x ≡ y)
guard_some true x y e = absurd cc
guard_some false x y e = (refl, cc)

abbrev pub done : {A : Type 0} → A → Option A
done x = Some x

pub some_is : {A : Type 0} (x y : A) → done x ≡ done y → x ≡ y
some_is x y e = cc

-- ---- numbers

byte_at_each : (bytes : List ℕ) → AreBytes bytes → (i : ℕ) → get_or bytes i 0 < 256
byte_at_each bytes fit i =
    elim (cases_lt i (length bytes)) [
      | inl lt ↦ All-get_or (λ b. b < 256) bytes i 0 lt fit
      | inr le ↦ rw (get_or_past bytes i 0 le) (omega arith)
    ]

-- a number of this many bytes
record IsNumber (count limit : ℕ) (value : List ℕ → ℕ) (field : ℕ → List ℕ) : Type 0 where
  len : (n : ℕ) → length (field n) ≡ count
  back : (text : List ℕ) → length text ≡ count → AreBytes text → field (value text) ≡ text
  below : (text : List ℕ) → AreBytes text → value text < limit
  again : (n : ℕ) → n < limit → value (field n) ≡ n

number_at : (count : ℕ) (value : List ℕ → ℕ) → Reader ℕ
number_at count value bytes = cond (ltb (length bytes) count) None (Some (value (take count bytes), drop count bytes))

number_reader : (count limit : ℕ) (value : List ℕ → ℕ) (field : ℕ → List ℕ) → IsNumber count limit value field
    → IsReaderOf (λ n. n < limit) field (number_at count value)
unfolding number_at
number_reader count limit value field is = record {
  takes = λ bytes read fit e.
      let g = guard_some (ltb (length bytes) count) (value (take count bytes), drop count bytes) read e in
      let long : count ≤ length bytes = ltb-false _ _ g.0 in
      let fits : AreBytes (take count bytes) = All-take (λ b. b < 256) count bytes fit in
      let front : field (value (take count bytes)) ≡ take count bytes =
      is.back (take count bytes) (omega (arith, length-take count bytes)) fits in
      subst (Takes (λ n. n < limit) field bytes) g.1 (record {
        in_range = is.below (take count bytes) fits;
        parts = sym (take-append-drop count bytes) ∙ ap (λ (t : List ℕ). t ++ drop count bytes) (sym front);
        rest = All-drop (λ b. b < 256) count bytes fit;
      });
  again = λ n rest lt.
      let long : ltb (length (field n ++ rest)) count ≡ false =
      le-ltb _ _ (omega (arith, length-append (field n) rest, is.len n)) in
      rw (long, take_at (field n) rest count (is.len n), drop_at (field n) rest count (is.len n), is.again n lt) refl;
}

pub u32_reader : IsReaderOf (λ n. n < 2 ^ 32) u32_field u32_at
unfolding u32_field u32_at number_at
u32_reader = number_reader 4 (2 ^ 32) (from_le_bytes w32) (to_le_bytes w32) (record {
  len = λ n. refl;
  back = λ text len fit. le_bytes_4 text _ len (byte_at_each text fit) refl;
  below = λ text fit. let fits = byte_at_each text fit in omega (arith, fits 0, fits 1, fits 2, fits 3);
  again = λ n lt. from_le_bytes-to_le_bytes_4 n lt;
})

pub u64_reader : IsReaderOf (λ n. n < 2 ^ 64) u64_field u64_at
unfolding u64_field u64_at number_at
u64_reader = number_reader 8 (2 ^ 64) (from_le_bytes w64) (to_le_bytes w64) (record {
  len = λ n. refl;
  back = λ text len fit. le_bytes_8 text _ len (byte_at_each text fit) refl;
  below = λ text fit. let fits = byte_at_each text fit in omega
      (arith, fits 0, fits 1, fits 2, fits 3, fits 4, fits 5, fits 6, fits 7);
  again = λ n lt. from_le_bytes-to_le_bytes_8 n lt;
})

-- the bits of a signed number, read as unsigned
signed_at : Width → Reader ℕ → Reader ℤ
signed_at w bits_at bytes = bits_at bytes >>= λ n. Some (cast_signed w n.0, n.1)

signed_reader : (w : Width) (limit : ℕ) (bits_field : ℕ → List ℕ) (bits_at : Reader ℕ)
    → ((n : ℕ) → n < limit → Fits w n) → ((n : ℕ) → Fits w n → n < limit)
    → IsReaderOf (λ n. n < limit) bits_field bits_at
    → IsReaderOf (FitsSigned w) (λ z. bits_field (cast_unsigned w z)) (signed_at w bits_at)
unfolding signed_at
signed_reader w limit bits_field bits_at fits below is = record {
  takes = λ bytes read fit e.
      let b = bind_some (bits_at bytes) (λ n. Some (cast_signed w n.0, n.1)) read e in
      let t = is.takes bytes b.0 fit b.1 in
      let bits_fit : Fits w b.0.0 = fits b.0.0 t.in_range in
      subst (Takes (FitsSigned w) (λ z. bits_field (cast_unsigned w z)) bytes)
      (some_is (cast_signed w b.0.0, b.0.1) read b.2) (record {
        in_range = sfits_to_z bits_fit;
        parts = t.parts ∙ ap (λ (k : ℕ). bits_field k ++ b.0.1) (sym (of_z-to_z bits_fit));
        rest = t.rest;
      });
  again = λ z rest z_fits.
      ap (λ (o : Option (ℕ × List ℕ)). o >>= λ n. Some (cast_signed w n.0, n.1))
      (is.again (cast_unsigned w z) rest (below _ (Fits-of_z z_fits)))
      ∙ ap (λ (x : ℤ). Some (x, rest)) (to_z-of_z z_fits);
}

pub i32_reader : IsReaderOf (FitsSigned w32) i32_field i32_at
unfolding i32_field i32_at signed_at
i32_reader = signed_reader w32 (2 ^ 32) u32_field u32_at (λ n lt. record { fits = lt }) (λ n h. h.fits) u32_reader

pub i64_reader : IsReaderOf (FitsSigned w64) i64_field i64_at
unfolding i64_field i64_at signed_at
i64_reader = signed_reader w64 (2 ^ 64) u64_field u64_at (λ n lt. record { fits = lt }) (λ n h. h.fits) u64_reader

-- ---- bytes after their length

pub sized_reader : IsReaderOf IsSized sized_field sized_at
unfolding sized_field sized_at
sized_reader = record {
  takes = λ bytes read fit e.
      let b = bind_some (u32_at bytes) (λ n. cond (ltb (length n.1) n.0) None (Some (take n.0 n.1, drop n.0 n.1))) read
      e in
      let n = b.0.0 in
      let after = b.0.1 in
      let t = u32_reader.takes bytes b.0 fit b.1 in
      let g = guard_some (ltb (length after) n) (take n after, drop n after) read b.2 in
      let long : n ≤ length after = ltb-false _ _ g.0 in
      let len : length (take n after) ≡ n = omega (arith, length-take n after) in
      subst (Takes IsSized (λ text. u32_field (length text) ++ text) bytes) g.1 (record {
        in_range = (All-take (λ b. b < 256) n after t.rest, omega (arith, t.in_range));
        parts = t.parts
            ∙ ap (λ (k : ℕ). u32_field k ++ after) (sym len)
            ∙ ap (λ (x : List ℕ). u32_field (length (take n after)) ++ x) (sym (take-append-drop n after))
            ∙ sym (append_assoc (u32_field (length (take n after))) (take n after) (drop n after));
        rest = All-drop (λ b. b < 256) n after t.rest;
      });
  again = λ text rest h.
      let long : ltb (length (text ++ rest)) (length text) ≡ false =
      le-ltb _ _ (omega (arith, length-append text rest)) in
      ap (λ (x : List ℕ). u32_at x >>= λ n. cond (ltb (length n.1) n.0) None (Some (take n.0 n.1, drop n.0 n.1)))
      (append_assoc (u32_field (length text)) text rest)
      ∙ rw (
        u32_reader.again (length text) (text ++ rest) h.1,
        long,
        take_at text rest
            (length text) refl,
        drop_at text rest (length text) refl,
      ) refl;
}

-- ---- one field and then another

pub both_readers : {A B : Type 0} (P : A → Type 0) (Q : B → Type 0) (f : A → List ℕ) (g : B → List ℕ) (first : Reader A)
    (second : Reader B)
    → IsReaderOf P f first → IsReaderOf Q g second
    → IsReaderOf (λ (v : A × B). P v.0 × Q v.1) (λ v. f v.0 ++ g v.1) (first ⊗ second)
both_readers {A} {B} P Q f g first second is then = record {
  takes = λ bytes read fit e.
      let a = bind_some (first bytes) (λ a. second a.1 >>= λ b. Some ((a.0, b.0), b.1)) read e in
      let b = bind_some (second a.0.1) (λ b. Some ((a.0.0, b.0), b.1)) read a.2 in
      let t = is.takes bytes a.0 fit a.1 in
      let u = then.takes a.0.1 b.0 t.rest b.1 in
      subst (Takes (λ (v : A × B). P v.0 × Q v.1) (λ v. f v.0 ++ g v.1) bytes)
      (some_is ((a.0.0, b.0.0), b.0.1) read b.2) (record {
        in_range = (t.in_range, u.in_range);
        parts = t.parts ∙ ap (λ (x : List ℕ). f a.0.0 ++ x) u.parts ∙ sym (append_assoc (f a.0.0) (g b.0.0) b.0.1);
        rest = u.rest;
      });
  again = λ v rest h.
      ap (first ⊗ second) (append_assoc (f v.0) (g v.1) rest)
      ∙ rw (is.again v.0 (g v.1 ++ rest) h.0, then.again v.1 rest h.1) refl;
}

-- a correlation id and one more number
pub u32_after : IsReaderOf (λ (v : ℕ × ℕ). (v.0 < 2 ^ 64) × (v.1 < 2 ^ 32)) (λ v. u64_field v.0 ++ u32_field v.1)
    (u64_at ⊗ u32_at)
u32_after = both_readers _ _ _ _ _ _ u64_reader u32_reader

pub i32_after : IsReaderOf (λ (v : ℕ × ℤ). (v.0 < 2 ^ 64) × FitsSigned w32 v.1) (λ v. u64_field v.0 ++ i32_field v.1)
    (u64_at ⊗ i32_at)
i32_after = both_readers _ _ _ _ _ _ u64_reader i32_reader

-- ---- all of the bytes

-- what is read of them is what they spell
pub whole_takes : {V X : Type 0} {P : V → Type 0} {field : V → List ℕ} {reader : Reader V} → IsReaderOf P field reader
    → (made : V → X) (Spells : List ℕ → X → Type 0) → ((v : V) → P v → Spells (field v) (made v))
    → (body : List ℕ) (x : X) → AreBytes body → whole made reader body ≡ Some x → Spells body x
whole_takes {V} {X} {P} {field} {reader} is made Spells spelled body x fit e =
    let a = bind_some (reader body) (λ v. cond (eqb (length v.1) 0) (Some (made v.0)) None) x e in
    let t = is.takes body a.0 fit a.1 in
    let g = cond_some (eqb (length a.0.1) 0) (made a.0.0) x a.2 in
    let nothing : a.0.1 ≡ [] = nil_from_length a.0.1 (eqb-true _ _ g.0) in
    let parts = t.parts ∙ ap (λ (r : List ℕ). field a.0.0 ++ r) nothing ∙ append-nil (field a.0.0) in
    subst (Spells body) g.1 (subst (λ (b : List ℕ). Spells b (made a.0.0)) (sym parts) (spelled a.0.0 t.in_range))

-- what they spell is read of them
pub whole_again : {V X : Type 0} {P : V → Type 0} {field : V → List ℕ} {reader : Reader V} → IsReaderOf P field reader
    → (made : V → X) (v : V) → P v → or_malformed (field v) (whole made reader (field v)) ≡ Ok (made v)
whole_again {V} {X} {P} {field} {reader} is made v h =
    ap (λ (b : List ℕ). or_malformed (field v) (whole made reader b)) (sym (append-nil (field v)))
    ∙ rw (is.again v [] h) refl
