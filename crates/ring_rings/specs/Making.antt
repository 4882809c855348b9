-- The parts of the making of a claim.
use Rattle.std.specs.Prelude.{◌≡◌, ◌≢◌, ℕ, ◌+◌, ◌%◌, ◌≤◌, ◌<◌, ◌==◌, ℤ, List, [], ◌∷◌, ◌++◌, Bool, true, false, None}
use Rattle.ring_layout.specs.{History.IsMessage, History.span, Places.next_place, Places.end_after, Places.max_position}
use Rattle.ring_table.specs.{declared.claim.StagedClaim.StagedClaim, declared.view.View.View, Staged.staged_span}
use Rattle.ring_table.specs.{Changes.blank, Changes.fresh_stage, Changes.moved_claim, Views.with_claim}
use Rattle.ring_table.specs.ProducerSteps.{EndBelow, LoadsTail}
use Rattle.ring_layout.specs.{declared.admission.Admission.Admission, Refusals.all_shares}
use Rattle.ring_words.specs.declared.fault.ClaimFault.{ClaimFault, TheVariants.InsufficientCapacity}
use Rattle.ring_rings.specs.declared.fault.TryFault.{TryFault, TheVariants.Refused, TheVariants.Contended}
use Rattle.ring_rings.specs.Claiming.{GoesBy, LooksTwice, SeesRoom, SeesTail, looked, tail_loads, tail_refusal_of}

-- The view is w once the producer knows the tail. One of many producers loads it.
abbrev pub KnowsTail : Bool → ℕ → View → ℕ → View → Type 0
KnowsTail true C v tail w = LoadsTail C v tail w
KnowsTail false C v tail w = (w ≡ v) × (tail ≡ v.producer.seen_tail)

-- the admission is the place of a valid message after the tail
pub record GoesBehind (C tail : ℕ) (type_id : ℤ) (len : ℕ) (a : Admission) : Type 0 where
  pub message : IsMessage C (blank type_id len)
  pub tail_is : a.tail ≡ tail
  pub place : a.place ≡ next_place C tail (span len)
  pub end : a.end ≡ end_after C tail (span len)
  pub limit : end_after C tail (span len) ≤ max_position

-- there is room after the tail up to `end`
pub record FindsRoom (C tail end : ℕ) (v w : View) : Type 0 where
  pub loads : List (ℕ × ℕ)
  pub head : ℕ
  pub view : w ≡ looked loads v.producer.seen_tail head v
  pub looks : SeesRoom C tail end loads
  pub room : end ≤ head + C

-- the cached head and the head were loaded, and there is no room up to `end` after either of them
pub record FindsNoRoom (C tail end : ℕ) (fault : ClaimFault) (v w : View) : Type 0 where
  pub head : ℕ
  pub fault_is : fault ≡ InsufficientCapacity tail head
  pub loads : List (ℕ × ℕ)
  pub seen : ℕ
  pub view : w ≡ looked loads v.producer.seen_tail seen v
  pub loaded : LooksTwice C tail end loads head
  pub order : head ≤ tail
  pub full : head + C < end

-- a head beyond the tail was loaded
pub record FindsPassed (C tail end seen : ℕ) (v w : View) : Type 0 where
  pub loads : List (ℕ × ℕ)
  pub head : ℕ
  pub view : w ≡ looked loads v.producer.seen_tail head v
  pub goes : GoesBy C tail end loads seen
  pub greater : tail < seen
  pub others : v.producer.shares ≢ all_shares

abbrev pub FindsShortage : ℕ → ℕ → ℕ → TryFault → View → View → Type 0
FindsShortage C tail end (Refused fault) v w = FindsNoRoom C tail end fault v w
FindsShortage C tail end (Contended from seen) v w = (from ≡ tail) × FindsPassed C tail end seen v w

-- A claim for which the tail is moved, and whose header is not stored. Its type id and its length may be provisional,
-- with the span of len bytes.
pub record IsMovedClaim (C tail len : ℕ) (c : StagedClaim) : Type 0 where
  pub type_id : ℤ
  pub some_len : ℕ
  pub same : span some_len ≡ span len
  pub is : c ≡ moved_claim C tail type_id some_len

-- the tail is moved, and the claim has no header yet
pub record Moves (C tail : ℕ) (type_id : ℤ) (len : ℕ) (front : List (ℕ × ℕ)) (v : View) (a : Admission)
    (w : View) : Type 0 where
  pub refusal : tail_refusal_of C tail type_id len ≡ None
  pub admitted : GoesBehind C tail type_id len a
  pub whole : a.end % 8 ≡ 0
  pub loads : List (ℕ × ℕ)
  pub room : SeesRoom C tail (end_after C tail (span len)) loads
  pub head : ℕ
  pub claim : StagedClaim
  pub is_moved : IsMovedClaim C tail len claim
  pub view : w ≡ with_claim claim (end_after C tail (span len)) (looked (front ++ loads) tail head v)
  pub behind : EndBelow tail v.producer.claims

-- the tail is moved, after the tail by which a producer of this kind goes
abbrev pub MovesBehind : Bool → ℕ → ℤ → ℕ → View → Admission → View → Type 0
MovesBehind many C type_id len v a w =
    Moves C a.tail type_id len (tail_loads many C a.tail) v a w × SeesTail many v a.tail

-- c is the last claim of the view. It was made from the tail on for len bytes. Its header is not stored, and the other
-- claims are before it.
pub record IsNewest (tail place len : ℕ) (cs : List StagedClaim) (c : StagedClaim) (v : View) : Type 0 where
  pub claims : v.producer.claims ≡ cs ++ c ∷ []
  pub behind : EndBelow tail cs
  pub from_is : c.from ≡ tail
  pub place_is : c.place ≡ place
  pub stage_is : c.stage ≡ fresh_stage (tail == place)
  pub span_is : span len ≡ staged_span c

-- a view has a newest claim
pub record HasNewest (tail place len : ℕ) (v : View) : Type 0 where
  pub others : List StagedClaim
  pub claim : StagedClaim
  pub newest : IsNewest tail place len others claim v
