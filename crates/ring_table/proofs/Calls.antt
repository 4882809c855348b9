-- The steps as the functions call them: at the word that the code computes, under the capacity that the caller has.
use Rattle.std.proofs.Common.{◌≡◌, ℕ, ◌+◌, ◌/◌, ◌≤◌, ◌<◌, ℤ, List, true, eqb, sym, refl, ap, ◌∙◌, subst, arith}
use Rattle.atomic_table.specs.{Seated.TableId, Table.State, Table.Allows, declared.shared.Seat.Seat}
use Rattle.std.proofs.{Math.Option.some, Math.ListN.get_elem?, lemmas.Nat.mod_below}
use Rattle.ring_layout.specs.declared.message.ClaimState.{ClaimState, TheVariants.Open}
use Rattle.ring_layout.specs.{Headers.header_of, Places.index, Places.next_place, History.span}
use Rattle.ring_table.specs.Staged.{PlacedMessage, Bodies, in_words, elsewhere, StagedClaim, Stage, Stored, IsStored, AreRising}
use Rattle.ring_table.specs.{Changes.changed, Changes.staged, Changes.moved_claim, Seats.IsSeatOf, Seats.IsSameSeat}
use Rattle.ring_table.specs.Views.{Key, View, ConsumerView, with_claims, with_claim, with_consumer, stands_at}
use Rattle.ring_table.specs.ProducerSteps.{Mine, HasClaimAt, Changes, IsStagedOpen, StoresSettled, with_changed}
use Rattle.ring_table.proofs.{LoadLemmas.Ok, StoreLemmas.settles, ShelfLemmas.CarriesOn, ShelfLemmas.CarriesIn}
use Rattle.ring_table.proofs.MarkSteps.{Obeys, Rests, RestsIn, SameReader, lift_any, rests_same}
use Rattle.ring_table.proofs.CarryLemmas.{lift, carries_same, carries_on, carries_claim, carries_changed, one_claim}

-- the view is of the same ring, and has the same slots out
pub record IsOf (v w : View) : Type 0 where
  pub capacity : w.capacity ≡ v.capacity
  pub out : w.out ≡ v.out

pub of_as : {v w x : View} → w ≡ x → x.capacity ≡ v.capacity → x.out ≡ v.out → IsOf v w
of_as is capacity out = record {
  capacity = ap (λ (z : View). z.capacity) is ∙ capacity;
  out = ap (λ (z : View). z.out) is ∙ out;
}

-- what a step leaves of its seat
pub same_seat : {old new : Seat ℕ View} → new.table_id ≡ old.table_id → new.id ≡ old.id → new.me.1 ≡ old.me.1
    → IsOf old.me.0 new.me.0 → IsSameSeat old new
same_seat table id slots view =
    record { table = table; id = id; slots = slots; capacity = view.capacity; out = view.out }

-- the same of a seat whose view and slots became m
pub reseated_as : {old new : Seat ℕ View} {m : Mine} → (new.table_id ≡ old.table_id) × (new.id ≡ old.id) × (new.me ≡ m)
    → m.1 ≡ old.me.1 → IsOf old.me.0 m.0 → IsSameSeat old new
reseated_as h slots view = same_seat h.0 h.1 (ap (λ (m : Mine). m.1) h.2 ∙ slots) (record {
  capacity = ap (λ (m : Mine). m.0.capacity) h.2 ∙ view.capacity;
  out = ap (λ (m : Mine). m.0.out) h.2 ∙ view.out;
})

-- what a step leaves for the shelf: the new view has the same slots out, and no more claims
pub record Leaves (B : Bodies) (v w : View) : Type 0 where
  pub out : w.out ≡ v.out
  pub carries : CarriesIn B v w
  pub rests : RestsIn B v w

in_any : (B : Bodies) (v w : View) → CarriesOn v w → CarriesIn B v w
in_any in_words v w c = tt
in_any elsewhere v w c = c

rests_any : (B : Bodies) (v w : View) → Rests v w → RestsIn B v w
rests_any in_words v w r = tt
rests_any elsewhere v w r = r

pub leaves_as : (B : Bodies) {v w x : View} → w ≡ x → x.out ≡ v.out → CarriesOn v x → Rests v x → Leaves B v w
leaves_as B {v} {w} {x} is out c r = record {
  out = ap (λ (z : View). z.out) is ∙ out;
  carries = in_any B v w (subst (CarriesOn v) (sym is) c);
  rests = rests_any B v w (subst (Rests v) (sym is) r);
}

-- claims, kind and the reader's part are as they were
pub leaves_same : (B : Bodies) {v w x : View} → w ≡ x → x.out ≡ v.out → x.producer.claims ≡ v.producer.claims
    → x.consumes ≡ v.consumes → SameReader v.consumer x.consumer → Leaves B v w
leaves_same B is out claims kind same = leaves_as B is out (carries_same claims kind same.head)
    (record { stays = λ consumes. kind ∙ consumes; same = λ _. same })

-- a read goes on, and its head stays
pub leaves_at : {v w : View} → w.out ≡ v.out → Leaves in_words v w
leaves_at out = record { out = out; carries = tt; rests = tt }

-- a claim is made
pub leaves_claim : (B : Bodies) {v w : View} (C e new n : ℕ) (type_id : ℤ)
    → w ≡ with_claim (moved_claim C e type_id n) new v → Leaves B v w
leaves_claim B {v} {w} C e new n type_id is = leaves_as B is refl
    (carries_claim v (moved_claim C e type_id n) (eqb e (next_place C e (span n))) new refl)
    (rests_same {v = v} {w = with_claim (moved_claim C e type_id n) new v} refl refl)

-- the head is stored at q, up to which the words are cleared
pub head_rises : (B : Bodies) (C start id : ℕ) (v : View) (s : State ℕ View) → Ok B C start s
    → get_elem? s.views id ≡ some v → v.consumes ≡ true → (q : ℕ) (got : List PlacedMessage)
    → v.consumer.cleared ≤ q → CarriesOn v (with_consumer (stands_at q got v.consumer) v)
head_rises B C start id v s r at consumes q got above =
    let mine = ((r.seated.each id v at).consumes consumes).1 in
    let heads : v.consumer.head ≡ r.consumer.head = ap (λ (z : ConsumerView). z.head) mine in
    let cleared : v.consumer.cleared ≡ r.consumer.cleared = ap (λ (z : ConsumerView). z.cleared) mine in
    carries_on refl refl (omega arith)

-- bodies in words ask nothing
pub leaves_words : {v w x : View} → w ≡ x → x.out ≡ v.out → Leaves in_words v w
leaves_words is out = record { out = ap (λ (z : View). z.out) is ∙ out; carries = tt; rests = tt }

-- what a store did to a claim that was named by its place
pub after_change : (t : Stage) (at : StagedClaim → ℕ) (f : StagedClaim → StagedClaim) (capacity i place : ℕ)
    (v w : View) (P : StagedClaim → Type 0) (h : HasClaimAt v place P)
    → v.capacity ≡ capacity → h.claim.stage ≡ t → i ≡ index capacity (at h.claim) → Changes t at f i v w
    → w ≡ with_claims (changed place f v.producer.claims) v
after_change t at f capacity i place v w P h cap stage is told =
    told h.nth h.claim h.there stage (ap (λ c. index c (at h.claim)) cap ∙ sym is)
    ∙ ap (λ p. with_claims (changed p f v.producer.claims) v) h.at_place

module _ (B : Bodies) {id : TableId} {key : Key} {capacity : ℕ} {seat : Seat ℕ View}
    (s : IsSeatOf id key capacity seat) where
  -- a ring of the capacity C lets the word i become f of itself, and `told` holds of it, the view, the number found and
  -- the view after
  abbrev pub MayStep : ℕ → ℕ → (ℕ → ℕ) → (ℕ → Mine → ℕ → Mine → Type 0) → Type 0
  MayStep C i f told = Allows (Ok B C key.start) id.slots seat.id seat.me i f (told i seat.me)

  -- what a step asks of the table
  abbrev pub Asks : ℕ → (ℕ → ℕ) → (ℕ → Mine → ℕ → Mine → Type 0) → Type 0
  Asks i f told = (seat.table_id ≡ id) × (i < id.words)
      × Allows (Obeys B key.capacity key.start) id.slots seat.id seat.me i f (told i seat.me)

  -- it takes and gives no slots, and what it leaves for the shelf
  abbrev pub Spares : ℕ → (ℕ → Mine → ℕ → Mine → Type 0) → Type 0
  Spares i told = (n : ℕ) (me' : Mine) → told i seat.me n me' → (s : State ℕ View)
      → Ok B key.capacity key.start s → get_elem? s.views seat.id ≡ some seat.me.0
      → (me'.1 ≡ seat.me.1) × Leaves B seat.me.0 me'.0

  -- at a word of the trailer
  pub trailer_step : (i word : ℕ) → word < 96 → i ≡ capacity / 8 + word
      → (f : ℕ → ℕ) (told : ℕ → Mine → ℕ → Mine → Type 0) → Spares i told
      → MayStep capacity (capacity / 8 + word) f told → Asks i f told
  trailer_step i word inside is f told spares allows =
      let key_is = s.key_is in
      let words_are = s.words_are in (
        s.table_is,
        omega arith,
        lift_any B key.capacity key.start id.slots seat.id seat.me i f (told i seat.me) (omega arith) (omega arith) s.home
            (λ n me' t s r at. let l = spares n me' t s r at in (l.0, l.1.out, l.1.carries, l.1.rests))
            (subst (λ (z : ℕ × ℕ). MayStep z.0 z.1 f told) (λ k. (sym s.key_is k, sym is k)) allows),
      )

module _ {id : TableId} {key : Key} {capacity : ℕ} {seat : Seat ℕ View}
    (s : IsSeatOf id key capacity seat) where
  -- at a record's word, whose position is p in the code and q in the lemma
  pub record_step : (i p q : ℕ) → i ≡ index capacity p → q ≡ p
      → (f : ℕ → ℕ) (told : ℕ → Mine → ℕ → Mine → Type 0) → Spares in_words s i told
      → MayStep in_words s capacity (index capacity q) f told → Asks in_words s i f told
  record_step i p q is at f told spares allows =
      let there = is ∙ ap (index capacity) (sym at) in
      let words_are = s.words_are in
      let inner = mod_below q capacity (let least = s.lawful.least in omega arith) in (
        s.table_is,
        omega arith,
        lift in_words key.capacity key.start id.slots seat.id seat.me i f (told i seat.me) s.home
            (λ n me' t s' r at'. let l = spares n me' t s' r at' in (l.0, l.1.out, tt))
            (subst (λ (z : ℕ × ℕ). MayStep in_words s z.0 z.1 f told) (λ k. (sym s.key_is k, sym there k)) allows),
      )

  module _ (u : ClaimState) {type_id : ℤ} {n place i : ℕ}
      (h : HasClaimAt seat.me.0 place (IsStagedOpen type_id n)) (is : i ≡ index capacity place) where
    pub settled_view : (w : View) → StoresSettled u i seat.me.0 w → w ≡ with_changed place (staged (Stored u)) seat.me.0
    settled_view w = after_change (Stored Open) (λ c. c.place) (staged (Stored u)) capacity i place seat.me.0 w
        (IsStagedOpen type_id n) h s.view_is h.holds.stage (is ∙ ap (index capacity) (sym h.at_place))

    settled_claims : AreRising seat.me.0.producer.claims
        → CarriesOn seat.me.0 (with_changed place (staged (Stored u)) seat.me.0)
    settled_claims rising = carries_changed seat.me.0 place (staged (Stored u)) (λ k d has at _.
        let one : h.claim ≡ d = one_claim seat.me.0.producer.claims h.nth k h.claim d rising h.there has
        (h.at_place ∙ sym at) in record {
          stored = subst (λ (z : StagedClaim). IsStored z.stage) one (subst IsStored (sym h.holds.stage) tt);
          place = refl;
          message = refl;
        })

    -- the header that settles a claim is stored
    pub settled_step : (value : ℕ) → value ≡ header_of (record { message = h.claim.message; state = u })
        → Asks in_words s i (λ _. value) (λ k me _ me'. (me'.1 ≡ me.1) × StoresSettled u k me.0 me'.0 × AreRising me.0.producer.claims)
    settled_step value value_is = record_step i place h.claim.place is h.at_place (λ _. value)
        (λ k me _ me'. (me'.1 ≡ me.1) × StoresSettled u k me.0 me'.0 × AreRising me.0.producer.claims)
        (λ _ me' t _ _ _. (t.0, leaves_words (settled_view me'.0 t.1) refl))
        (settles in_words capacity key.start u id.slots seat.id seat.me s.view_is h.nth h.claim value h.there h.holds.stage
        value_is)
