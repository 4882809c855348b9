-- Commands and replies begin with their correlation id: each reply has that of its command.
use Rattle.std.proofs.Common.{◌≡◌, ◌∙◌, ℕ, ◌+◌, ◌-◌, ◌<◌, ◌^◌, ◌==◌, Bool, true, false, cond, if◌then◌else◌, List, [], ◌∷◌, ◌++◌, length, take, drop, append_assoc, Option, Some, None, Result, Ok, Err, refl, sym, ap, arith, nat_lt, w64, append-nil}
use Rattle.std.specs.Int.{from_le_bytes}
use Rattle.ring_layout.specs.declared.message.{Message.Message, ClaimState.TheVariants.Committed}
use Rattle.ring_table.specs.declared.claim.{StagedClaim.StagedClaim, Stage.Stage, Stage.TheVariants.Stored}
use Rattle.ring_table.specs.Owners.{insert_claim, interleaved}
use Rattle.ring_table.specs.{Passing.placed_committed_of, Passing.placed_message, Passing.shown_at, Services.times}
use Rattle.ring_rings.specs.Reading.{messages_of}
use Rattle.ring_counters.specs.declared.fault.{AllocateRefused.AllocateRefused, IdFault.IdFault}
use Rattle.ring_counters.specs.{declared.values.view.ValueWrite.ValueWrite, Counter.Counter, Views.value_write}
use Rattle.ring_counters.specs.Registry.{Registry, allocation_of, closed_in, id_refusal_of, new_counter, owned_ids, reclaimed_in, with_value}
use Rattle.ring_protocol.specs.{declared.reply.Reply.Reply, declared.command.Request.Request, Command.Instruction}
use Rattle.ring_protocol.specs.declared.reply.Reply.TheVariants as told
use Rattle.ring_protocol.{specs.Bad.correlation_of, proofs.ReadCommands.spelled_again, proofs.Readers.u64_reader}
use Rattle.ring_protocol.specs.declared.command.Request.TheVariants.{Allocate, AllocateOwned, Close, Free, Set}
use Rattle.ring_protocol.specs.Command as command
use Rattle.ring_protocol.specs.{Field.i32_field, Field.u32_field, Field.u64_at, Field.u64_field, Codes.bad_owner_code}
use Rattle.ring_protocol.specs.Reply as reply
use Rattle.ring_service.specs.Account.{Account, account_of, entered, reply_message, untimed}
use Rattle.ring_service.specs.Applied.{allocated, applied, done_unless, obeyed, obeyed_if_read, refused}

-- the correlation id that a message begins with
abbrev pub stamp : Message → ℕ
stamp m = correlation_of m.body

abbrev pub stamps : List Message → List ℕ
stamps [] = []
stamps (m ∷ ms) = stamp m ∷ stamps ms

pub stamps-append : (a b : List Message) → stamps (a ++ b) ≡ stamps a ++ stamps b
stamps-append [] b = refl
stamps-append (m ∷ a) b = ap (λ l. stamp m ∷ l) (stamps-append a b)

-- What spellings begin with ------------------------------------------------------

abbrev read : ℕ → List ℕ → Option (ℕ × List ℕ)
read n rest = Some (n, rest)

abbrev front_of : Option (ℕ × List ℕ) → ℕ
front_of (Some read) = read.0
front_of None = 0

read_one : (x n : ℕ) (b rest : List ℕ) → read x b ≡ read n rest → x ≡ n
read_one x n b rest e = ap front_of e

begins : (n : ℕ) (rest : List ℕ) → n < 2 ^ 64 → correlation_of (u64_field n ++ rest) ≡ n
unfolding correlation_of u64_at
begins n rest low =
    let bytes = u64_field n ++ rest in
    by (nat_lt (length bytes) 8) (from_le_bytes w64 (take 8 bytes)) (drop 8 bytes) (u64_reader.again n rest low)
  where
    by : (b : Bool) (front : ℕ) (behind : List ℕ) → cond b None (read front behind) ≡ read n rest
        → cond b (2 ^ 64 - 1) front ≡ n
    by true front behind e = absurd cc
    by false front behind e = read_one front n behind rest e

pub command_begins : (c : Instruction) → c.correlation < 2 ^ 64
    → correlation_of (command.spelling_of c) ≡ c.correlation
command_begins c low = begins c.correlation (command.fields_of c.request) low

pub reply_begins : (r : Reply) → reply.correlation_id_of r < 2 ^ 64
    → correlation_of (reply.spelling_of r) ≡ reply.correlation_id_of r
reply_begins (told.Allocated correlation id) low = begins correlation (u32_field id) low
reply_begins (told.Done correlation) low =
    ap correlation_of (sym (append-nil (u64_field correlation))) ∙ begins correlation [] low
reply_begins (told.Refused correlation code) low = begins correlation (i32_field code) low
reply_begins (told.Closed correlation freed) low = begins correlation (u32_field freed) low

-- Each reply belongs to its command ---------------------------------------------------

allocated_answers : (r : Registry) (correlation : ℕ) (c : Counter) (found : Result ℕ AllocateRefused)
    → reply.correlation_id_of (allocated r correlation c found).reply ≡ correlation
allocated_answers r correlation c (Ok id) = refl
allocated_answers r correlation c (Err fault) = refl

done_answers : (refusal : Option IdFault) (r : Registry) (correlation : ℕ) (new : Registry) (writes : List ValueWrite)
    → reply.correlation_id_of (done_unless refusal r correlation new writes).reply ≡ correlation
done_answers None r correlation new writes = refl
done_answers (Some fault) r correlation new writes = refl

answers : (now : ℕ) (r : Registry) (correlation : ℕ) (asked : Request (List ℕ))
    → reply.correlation_id_of (obeyed now r correlation asked).reply ≡ correlation
answers now r correlation (Allocate type_id key label) =
    allocated_answers r correlation (new_counter type_id key label correlation 0) (allocation_of r now key label)
answers now r correlation (AllocateOwned type_id owner key label) =
    allocated_answers r correlation (new_counter type_id key label correlation owner) (allocation_of r now key label)
answers now r correlation (Free id) = done_answers (id_refusal_of r id) r correlation (reclaimed_in r now id) []
answers now r correlation (Set id value) =
    done_answers (id_refusal_of r id) r correlation (with_value r id value) (value_write id value ∷ [])
answers now r correlation (Close owner) = by (owner == 0)
  where
    by : (b : Bool)
        → reply.correlation_id_of (if b then refused r correlation bad_owner_code else
        record {
          registry = closed_in r now owner;
          writes = [];
          reply =
              told.Closed correlation (length (owned_ids r owner));
        }).reply ≡ correlation
    by true = refl
    by false = refl

-- a claim that was committed, and what its message spells
abbrev pub IsSaid : StagedClaim → Type 0
IsSaid c = (c.stage ≡ Stored Committed) × (i : Instruction) × command.Spells c.message.type_id c.message.body i

reply_stamped : (now : ℕ) (r : Registry) (m : Message) (c : Instruction) → command.Spells m.type_id m.body c
    → stamp (reply_message (applied now r m).reply) ≡ stamp m
reply_stamped now r m c said =
    let low = said.has_spelling.0 in
    let same = answers now r c.correlation c.request in
    let reply_is = reply_begins (obeyed now r c.correlation c.request).reply (omega arith) in
    let command_is = command_begins c low in
    ap (λ x. stamp (reply_message (obeyed_if_read now r x).reply)) (spelled_again m.type_id m.body c said)
    ∙ (reply_is ∙ (same ∙ (sym command_is ∙ ap correlation_of said.spelled)))

-- All claims -----------------------------------------------------------------------

abbrev pub Each : (StagedClaim → Type 0) → List StagedClaim → Type 0
Each P [] = Unit {0}
Each P (c ∷ cs) = P c × Each P cs

abbrev pub messages_by : List StagedClaim → List Message
messages_by [] = []
messages_by (c ∷ cs) = c.message ∷ messages_by cs

-- a committed claim shows its message
pub shown : (c : StagedClaim) (cs : List StagedClaim) → c.stage ≡ Stored Committed
    → messages_of (placed_committed_of (c ∷ cs)) ≡ c.message ∷ messages_of (placed_committed_of cs)
shown c cs e = ap (λ (s : Stage). messages_of (shown_at s (placed_message c) ++ placed_committed_of cs)) e

pub same_head : (m n : Message) (ms ns : List Message) → m ∷ ms ≡ n ∷ ns → m ≡ n
same_head m n ms ns e = cc

pub same_tail : (m n : Message) (ms ns : List Message) → m ∷ ms ≡ n ∷ ns → ms ≡ ns
same_tail m n ms ns e = cc

-- the replies have the correlation ids of the claims, in their order
pub all_stamped : (a : Account) (ts : List (ℕ × Message)) (cs : List StagedClaim) → Each IsSaid cs
    → untimed ts ≡ messages_of (placed_committed_of cs)
    → stamps (account_of a ts).replies ≡ stamps a.replies ++ stamps (messages_by cs)
all_stamped a [] [] said e = sym (append-nil (stamps a.replies))
all_stamped a (t ∷ ts) [] said e = absurd cc
all_stamped a [] (c ∷ cs) said e = absurd (let clash = e ∙ shown c cs said.0.0 in cc)
all_stamped a (t ∷ ts) (c ∷ cs) said e =
    let lists = e ∙ shown c cs said.0.0 in
    let here = same_head t.1 c.message (untimed ts) (messages_of (placed_committed_of cs)) lists in
    let rest = all_stamped (entered a t.0 t.1) ts cs said.1
    (same_tail t.1 c.message (untimed ts) (messages_of (placed_committed_of cs)) lists) in
    let one : stamp (reply_message (applied t.0 a.registry t.1).reply) ≡ stamp c.message =
    ap (λ m. stamp (reply_message (applied t.0 a.registry m).reply)) here
    ∙ reply_stamped t.0 a.registry c.message said.0.1 said.0.2 in
    rest ∙ (ap (λ l. l ++ stamps (messages_by cs))
    (stamps-append a.replies (reply_message (applied t.0 a.registry t.1).reply ∷ []))
    ∙ (append_assoc (stamps a.replies) (stamp (reply_message (applied t.0 a.registry t.1).reply) ∷ [])
    (stamps (messages_by cs))
    ∙ ap (λ s. stamps a.replies ++ s ∷ stamps (messages_by cs)) one))

-- Claims put together ----------------------------------------------------------------

module _ (P : StagedClaim → Type 0) where
  each_inserted : (c : StagedClaim) (cs : List StagedClaim) → P c → Each P cs → Each P (insert_claim c cs)
  each_inserted c [] one h = (one, tt)
  each_inserted c (d ∷ ds) one h = by (nat_lt c.place d.place) (each_inserted c ds one h.1)
    where
      by : (b : Bool) → Each P (insert_claim c ds) → Each P (if b then c ∷ d ∷ ds else d ∷ insert_claim c ds)
      by true deeper = (one, h)
      by false deeper = (h.0, deeper)

  pub each_interleaved : (cs ds : List StagedClaim) → Each P cs → Each P ds → Each P (interleaved cs ds)
  each_interleaved cs [] h k = h
  each_interleaved cs (d ∷ ds) h k =
      each_inserted d (interleaved cs ds) k.0 (each_interleaved cs ds h k.1)

  pub each_behind : (cs : List StagedClaim) (c : StagedClaim) → Each P cs → P c → Each P (cs ++ c ∷ [])
  each_behind [] c h one = (one, tt)
  each_behind (d ∷ ds) c h one = (h.0, each_behind ds c h.1 one)

pub messages_by-append : (a b : List StagedClaim) → messages_by (a ++ b) ≡ messages_by a ++ messages_by b
messages_by-append [] b = refl
messages_by-append (c ∷ a) b = ap (λ l. c.message ∷ l) (messages_by-append a b)

-- the number of claims with this correlation id
abbrev pub stamped : ℕ → List StagedClaim → ℕ
stamped x cs = times x (stamps (messages_by cs))

stamped_inserted : (x : ℕ) (c : StagedClaim) (cs : List StagedClaim)
    → stamped x (insert_claim c cs) ≡ stamped x (c ∷ cs)
stamped_inserted x c [] = refl
stamped_inserted x c (d ∷ ds) = by (nat_lt c.place d.place) (stamped_inserted x c ds)
  where
    by : (b : Bool) → stamped x (insert_claim c ds) ≡ stamped x (c ∷ ds)
        → stamped x (if b then c ∷ d ∷ ds else d ∷ insert_claim c ds) ≡ stamped x (c ∷ d ∷ ds)
    by true deeper = refl
    by false deeper = omega arith

pub stamped_interleaved : (x : ℕ) (cs ds : List StagedClaim)
    → stamped x (interleaved cs ds) ≡ stamped x cs + stamped x ds
stamped_interleaved x cs [] = omega arith
stamped_interleaved x cs (d ∷ ds) =
    let here = stamped_inserted x d (interleaved cs ds) in
    let rest = stamped_interleaved x cs ds in
    omega arith
