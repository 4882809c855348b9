-- The words of a registry list its counters.
use Rattle.std.proofs.Common.{◌≡◌, ℕ, zero, suc, ◌+◌, ◌-◌, ◌*◌, ◌%◌, ◌^◌, ◌<◌, ◌≤◌, Bool, true, false, cond, List, ◌∷◌, map, filter, length, drop, slice_index, refl, ap, sym, ◌∙◌, arith, ℤ, pos, Ok, Err, int_lt, not, ◌||◌, if◌then◌else◌, Option, Some, None, w32, int_eq, get_or-drop}
use Rattle.std.{specs.List.range_with_len, specs.Int.cast_signed, proofs.lemmas.Int.to_z-of_z}
use Rattle.ring_layout.proofs.HeaderLemmas.{fits_pos}
use Rattle.ring_counters.specs.Counter.{Status, Metadata}
use Rattle.ring_counters.specs.Counter as ring_counters
use Rattle.ring_counters.specs.Records.{bytes_at, metadata_of, IsMetadata, IsValues}
use Rattle.ring_counters.specs.Registry.{Registry, count_of, counter_at, status_at, is_unused, is_allocated}
use Rattle.ring_counters.proofs.RecordLemmas.{state_decoded, type_decoded, deadline_shown, length_decoded, metadata_decoded, value_decoded, registration_shown, owner_shown}
use Rattle.ring_snapshot.specs.{declared.counter.CounterState.CounterState, RingRecords.length_in, CounterWords.HaveIds}
use Rattle.ring_snapshot.specs.declared.counter.CounterState.TheVariants.{Allocated, Reclaimed}
use Rattle.ring_snapshot.specs.declared.counters_finding.CountersFinding.TheVariants.{BadLabelLength}
use Rattle.ring_snapshot.specs.CounterRecords.{CounterEntry, state_from, counter_of_records, with_label, with_state, entry_of, or_none, entries, Show, counter_as, counter_of, entries_of}

-- ---- any words

pub entries_here : (metadata values : List ℕ) (count id : ℕ) → id < count
    → entries metadata values (count - id) id
    ≡ or_none (entry_of id (drop (64 * id) metadata) (drop (16 * id) values))
    (entries metadata values (count - (id + 1)) (id + 1))
entries_here metadata values count id less =
    let size : count - id ≡ suc (count - (id + 1)) = omega arith in ap (λ n. entries metadata values n id) size

-- ---- the words of a counter

-- a short length is read as it is
read_short : (x n : ℕ) → x % 2 ^ 32 ≡ n → n ≤ 380 → length_in x ≡ pos n
read_short x n is short = ap (cast_signed w32) is ∙ to_z-of_z w32 (pos n) (fits_pos n (omega arith))

not_bad : (n : ℕ) → n ≤ 380 → (int_lt (pos n) (pos 0) || int_lt (pos 380) (pos n)) ≡ false
not_bad n short = grind (arith, short)

module _ (id : ℕ) (words values : List ℕ) (c : ring_counters.Counter) (m : IsMetadata words c.metadata)
    (v : IsValues values c.values) where
  abbrev n : ℕ
  n = length c.metadata.label

  short : n ≤ 380
  short = m.lawful.label_length

  key_read : bytes_at words 16 112 ≡ c.metadata.key
  unfolding metadata_of
  key_read = ap (λ (x : Metadata). x.key) (metadata_decoded words c.metadata m)

  label_read : bytes_at words 132 n ≡ c.metadata.label
  unfolding metadata_of
  label_read = sym (ap (bytes_at words 132) (length_decoded words c.metadata m))
      ∙ ap (λ (x : Metadata). x.label) (metadata_decoded words c.metadata m)

  counter_read : (told : CounterState) → counter_of_records id words values told n ≡ counter_as id told c
  counter_read told = λ i. record {
    id = id;
    state = told;
    type_id = type_decoded words c.metadata m i;
    deadline = deadline_shown words c.metadata m i;
    key = key_read i;
    label = label_read i;
    value = value_decoded values c.values v i;
    registration = registration_shown values c.values v i;
    owner = owner_shown values c.values v i;
  }

  label_passes : (told : CounterState) → with_label id words values (length_in (slice_index words 16)) told
      ≡ Ok (counter_as id told c)
  label_passes told =
      ap (λ x. with_label id words values x told)
      (read_short (slice_index words 16) n (length_decoded words c.metadata m) short)
      ∙ ap (λ b. if b then Err (BadLabelLength id (pos n)) else Ok (counter_of_records id words values told n))
      (not_bad n short)
      ∙ ap Ok (counter_read told)

  abbrev by_state : ℤ → Option CounterEntry
  by_state state = if int_eq state (pos 0) then None else Some (with_state id words values state (state_from state))

  abbrev told_of : ring_counters.Counter → Option CounterEntry
  told_of x = if not (is_unused x.metadata.status) then Some (Ok (counter_of id x)) else None

  entry_told : entry_of id words values ≡ told_of c
  entry_told = by c.metadata.status refl
    where
      with_flags : Status → Option CounterEntry
      with_flags s =
          if not (is_unused s) then Some (Ok (counter_as id (if is_allocated s then Allocated else Reclaimed) c))
          else None

      read : (s : Status) → c.metadata.status ≡ s → entry_of id words values ≡ by_state (ring_counters.state_of s)
      read s is = ap by_state (state_decoded words c.metadata m) ∙ ap (λ x. by_state (ring_counters.state_of x)) is

      by : (s : Status) → c.metadata.status ≡ s → entry_of id words values ≡ told_of c
      by ring_counters.Unused is = read ring_counters.Unused is ∙ sym (ap with_flags is)
      by ring_counters.Allocated is =
          read ring_counters.Allocated is ∙ ap Some (label_passes Allocated) ∙ sym (ap with_flags is)
      by (ring_counters.Reclaimed d) is =
          read (ring_counters.Reclaimed d) is ∙ ap Some (label_passes Reclaimed) ∙ sym (ap with_flags is)

-- ---- the words of a registry

module _ (metadata values : List ℕ) (r : Registry) (show : Show metadata values r) where
  entry_shown : (id : ℕ) → id < count_of r
      → entry_of id (drop (64 * id) metadata) (drop (16 * id) values)
      ≡ (if not (is_unused (status_at r id)) then Some (Ok (counter_of id (counter_at r id))) else None)
  entry_shown id less = entry_told id (drop (64 * id) metadata) (drop (16 * id) values) (counter_at r id)
      record {
        lawful = show.lawful id less;
        shows = λ k lt. get_or-drop (64 * id) metadata k 0
            ∙ show.metadata_words id k less lt;
      }
      record {
        value = show.fits id less;
        shows = λ k lt. get_or-drop (16 * id) values k 0
            ∙ show.value_words id k less lt;
      }

  entries_given : (n first : ℕ) → (0 < n → first + n ≤ count_of r)
      → entries metadata values n first ≡ entries_of r n first
  entries_given zero first inside = refl
  entries_given (suc n) first inside =
      (λ i. or_none (entry_shown first (omega (arith, inside (omega arith))) i)
      (entries_given n (first + 1) (λ some. omega (arith, inside (omega arith))) i))
      ∙ step (not (is_unused (status_at r first)))
    where
      told : ℕ → CounterEntry
      told id = Ok (counter_of id (counter_at r id))

      step : (b : Bool) → or_none (if b then Some (told first) else None) (entries_of r n (first + 1))
          ≡ map told (cond b (first ∷ filter (λ id. not (is_unused (status_at r id))) (range_with_len (first + 1) n))
          (filter (λ id. not (is_unused (status_at r id))) (range_with_len (first + 1) n)))
      step true = refl
      step false = refl

  -- a snapshot has one entry for each id of the registry
  pub entries_exact : (count first : ℕ) → HaveIds metadata values count
      → entries metadata values (count - first) first ≡ entries_of r (count_of r - first) first
  entries_exact count first ids =
      let same : count ≡ count_of r = omega (arith, ids.value_words, show.ids.value_words) in
      ap (λ n. entries metadata values (n - first) first) same
      ∙ entries_given (count_of r - first) first (λ some. omega (arith, some))
