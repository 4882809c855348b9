-- What the return value of an export says of the handles before and after it.
use Rattle.std.specs.Prelude.{◌≡◌, ◌≢◌, ◌⊎◌, ◌/◌, ℕ, ℤ, MatchOption, Bool}
use Rattle.std.specs.declared.option.Option.{Option, TheVariants.None, TheVariants.Some}
use Rattle.ring_handles.specs.{declared.held.Held.Held, Side.identity_of}
use Rattle.ring_handles.specs.{Conducting.IsConductorCode, Closing.EndsWith, Closing.WhyNotFinished, Producing.closing}
use Rattle.ring_handles.specs.Kinds.{a_conductor, a_producer, capacity_held, HoldsOne}
use Rattle.ring_handles.specs.Opening.{HoldFirstAdder, HoldFresh, HoldFreshCounters, HoldNewBoard, HoldNewConductor}
use Rattle.ring_handles.specs.Opening.{IsAdderCode, IsBoardCode, IsCountersCode, IsMakeCode}
use Rattle.ring_layout.specs.declared.refusal_codes.TheConstants.{OUT_OF_MEMORY}
use Rattle.ring_handles.specs.declared.code.TheConstants.{DONE, HANDLE_IN_USE, NO_HANDLE, WRONG_HANDLE}

-- Calls of one handle ------------------------------------------------------------

-- an empty handle returns NO_HANDLE and stays empty, and another kind's WRONG_HANDLE and stays as it is; of this kind P
-- says
abbrev pub Uses : {S : Type 0} → (Held → Option S) → (S → S → ℤ → Type 0) → Option Held → Option Held → ℤ → Type 0
Uses kind P before after code = MatchOption before ((code ≡ NO_HANDLE) × (after ≡ None))
    (λ h. MatchOption (kind h) ((code ≡ WRONG_HANDLE) × (after ≡ Some h)) (λ s. HoldsOne kind (λ t. P s t code) after))

-- the same of a call that puts something out: of this kind P says of what is out before and after, otherwise it stays
abbrev pub Yields : {S O : Type 0} → (Held → Option S) → (O → O → S → S → ℤ → Type 0) → O → O → Option Held
    → Option Held → ℤ → Type 0
Yields kind P old new before after code =
    MatchOption before ((code ≡ NO_HANDLE) × (after ≡ None) × (new ≡ old))
    (λ h. MatchOption (kind h) ((code ≡ WRONG_HANDLE) × (after ≡ Some h) × (new ≡ old))
    (λ s. HoldsOne kind (λ t. P old new s t code) after))

-- of a producer the open claims were aborted, and everything else is unchanged
abbrev pub ClosesHeld : Held → Held → Type 0
ClosesHeld h k = MatchOption (a_producer h) (k ≡ h) (λ p. MatchOption (a_producer k) ⊥ (λ q. q ≡ closing p))

-- What is made ------------------------------------------------------------------

-- handles in use return HANDLE_IN_USE and stay as they are; otherwise a ring of this number is made for them, or
-- refused
abbrev pub Opens : Bool → ℕ → ℕ → ℕ → Option Held → Option Held → Option Held → Option Held → ℤ → Type 0
Opens many number C start p c p' c' code = (((p ≢ None) ⊎ (c ≢ None)) × (code ≡ HANDLE_IN_USE) × (p' ≡ p) × (c' ≡ c))
    ⊎ ((p ≡ None) × (c ≡ None) × IsMakeCode C start code
    × (((code ≡ DONE) × HoldFresh many (identity_of number) C start p' c')
    ⊎ ((code ≢ DONE) × (p' ≡ None) × (c' ≡ None))))

-- a handle in use returns HANDLE_IN_USE and stays as it is; otherwise what Holds says is made for it, or refused with
-- the code
abbrev pub FillsHandle : (ℤ → Type 0) → (Option Held → Type 0) → Option Held → Option Held → ℤ → Type 0
FillsHandle IsCode Holds h h' code = ((h ≢ None) × (code ≡ HANDLE_IN_USE) × (h' ≡ h))
    ⊎ ((h ≡ None) × IsCode code × (((code ≡ DONE) × Holds h') ⊎ ((code ≢ DONE) × (h' ≡ None))))

-- a broadcast buffer of this number
abbrev pub OpensBoard : ℕ → ℕ → ℕ → Option Held → Option Held → ℤ → Type 0
OpensBoard number C start = FillsHandle (IsBoardCode C start) (HoldNewBoard (identity_of number) C start)

-- counters of this number
abbrev pub OpensCounters : ℕ → ℕ → ℕ → Option Held → Option Held → ℤ → Type 0
OpensCounters number count reuse_ms =
    FillsHandle (IsCountersCode count) (HoldFreshCounters (identity_of number) count reuse_ms)

-- a shared counter of this number, with its first adder
abbrev pub OpensAdder : ℕ → Option Held → Option Held → ℤ → Type 0
OpensAdder number = FillsHandle IsAdderCode (HoldFirstAdder (identity_of number))

-- a conductor of this number
abbrev pub OpensConductor : ℕ → ℕ → ℕ → ℕ → ℕ → Option Held → Option Held → ℤ → Type 0
OpensConductor number C R count reuse_ms =
    FillsHandle (IsConductorCode C R count) (HoldNewConductor (identity_of number) C R count reuse_ms)

-- Handles that are filled by another one -------------------------------------------

-- of what a handle of this kind holds something was made for another handle, or not
abbrev pub Gives : {S T : Type 0} → (Held → Option S) → (Held → Option T) → (S → S → T → Type 0) → (S → ℤ → Type 0)
    → Option Held → Option Held → Option Held → ℤ → Type 0
Gives kind other Makes Keeps p p' o' code = MatchOption p ((code ≡ NO_HANDLE) × (p' ≡ None) × (o' ≡ None))
    (λ h. MatchOption (kind h) (((code ≡ WRONG_HANDLE) ⊎ (code ≡ OUT_OF_MEMORY)) × (p' ≡ Some h) × (o' ≡ None))
    (λ s. ((code ≡ DONE) × HoldsOne kind (λ t. HoldsOne other (λ o. Makes s t o) o') p')
    ⊎ (Keeps s code × HoldsOne kind (λ t. t ≡ s) p' × (o' ≡ None))))

-- a handle in use returns HANDLE_IN_USE and stays as it is; otherwise it is filled, or not
abbrev pub GivesInto : {S T : Type 0} → (Held → Option S) → (Held → Option T) → (S → S → T → Type 0) → (S → ℤ → Type 0)
    → Option Held → Option Held → Option Held → Option Held → ℤ → Type 0
GivesInto kind other Makes Keeps p o p' o' code = ((o ≢ None) × (code ≡ HANDLE_IN_USE) × (p' ≡ p) × (o' ≡ o))
    ⊎ ((o ≡ None) × Gives kind other Makes Keeps p p' o' code)

-- Joining ------------------------------------------------------------------------

-- if the handle holds one of this kind, P holds of it
abbrev pub IfHolds : {S : Type 0} → (Held → Option S) → (S → Type 0) → Option Held → Type 0
IfHolds kind P held = MatchOption held (Unit {0}) (λ h. MatchOption (kind h) (Unit {0}) P)

-- if the first holds one of this kind and the second one of that, P holds of the two
abbrev pub WhereBoth : {S T : Type 0} → (Held → Option S) → (Held → Option T) → (S → T → Type 0) → Option Held
    → Option Held → Type 0
WhereBoth kind other P p o = IfHolds kind (λ s. IfHolds other (P s) o) p

-- the second was taken in by the first, or both stay as they were
abbrev pub Joined : {S T : Type 0} → (Held → Option S) → (Held → Option T) → (S → T → S → Type 0)
    → (S → T → ℤ → Type 0) → S → T → Option Held → Option Held → ℤ → Type 0
Joined kind other Takes Keeps s t p' o' code = ((code ≡ DONE) × HoldsOne kind (λ u. Takes s t u) p' × (o' ≡ None))
    ⊎ (Keeps s t code × HoldsOne kind (λ u. u ≡ s) p' × HoldsOne other (λ u. u ≡ t) o')

-- a handle that is empty, or of another kind, returns that code, and both stay; otherwise the second is taken in, or
-- not
abbrev pub JoinsInto : {S T : Type 0} → (Held → Option S) → (Held → Option T) → (S → T → S → Type 0)
    → (S → T → ℤ → Type 0) → Option Held → Option Held → Option Held → Option Held → ℤ → Type 0
JoinsInto kind other Takes Keeps p o p' o' code = MatchOption p ((code ≡ NO_HANDLE) × (p' ≡ None) × (o' ≡ o))
    (λ h. MatchOption o ((code ≡ NO_HANDLE) × (p' ≡ Some h) × (o' ≡ None))
    (λ k. MatchOption (kind h) ((code ≡ WRONG_HANDLE) × (p' ≡ Some h) × (o' ≡ Some k))
    (λ s. MatchOption (other k) ((code ≡ WRONG_HANDLE) × (p' ≡ Some h) × (o' ≡ Some k))
    (λ t. Joined kind other Takes Keeps s t p' o' code))))

-- Ending -------------------------------------------------------------------------

-- an empty handle returns NO_HANDLE and stays empty, and another kind's WRONG_HANDLE and stays as it is; one of this
-- kind is emptied if what it held ended, otherwise it stays as it is. Numbers are put out only at an end
abbrev pub EndsAs : {S O : Type 0} → (Held → Option S) → (S → O → Type 0) → (S → ℤ → Type 0) → O → O → Option Held
    → Option Held → ℤ → Type 0
EndsAs kind Done Keeps before after h h' code =
    MatchOption h ((code ≡ NO_HANDLE) × (h' ≡ None) × (after ≡ before))
    (λ k. MatchOption (kind k) ((code ≡ WRONG_HANDLE) × (h' ≡ Some k) × (after ≡ before))
    (λ s. ((code ≡ DONE) × (h' ≡ None) × Done s after)
    ⊎ (Keeps s code × HoldsOne kind (λ t. t ≡ s) h' × (after ≡ before))))

-- what an end puts out: how many commands were received, and how many were left
pub record Counts : Type 0 where
  pub received : ℕ
  pub left : ℕ

abbrev pub counts : ℕ → ℕ → Counts
counts received left = record { received = received; left = left }

-- a conductor's handle is emptied once the conductor ended, or it stays as it is
abbrev pub Ends : Counts → Counts → Option Held → Option Held → ℤ → Type 0
Ends = EndsAs a_conductor (λ c ended. EndsWith c.end ended.received ended.left) WhyNotFinished

-- Sizes --------------------------------------------------------------------------

-- what a look at sizes puts out: the bytes of the buffer, and those of the longest message
pub record Sizes : Type 0 where
  pub capacity : ℕ
  pub longest : ℕ

abbrev pub sizes : ℕ → ℕ → Sizes
sizes capacity longest = record { capacity = capacity; longest = longest }

-- the handle stays as it is, and if it holds an end of a ring or a board, its sizes are put out
abbrev pub SaysSizes : Sizes → Sizes → Option Held → Option Held → ℤ → Type 0
SaysSizes old new before after code = (after ≡ before)
    × MatchOption before ((code ≡ NO_HANDLE) × (new ≡ old))
    (λ h. MatchOption (capacity_held h) ((code ≡ WRONG_HANDLE) × (new ≡ old))
    (λ C. (code ≡ DONE) × (new ≡ sizes C (C / 8))))
