use Rattle.std.proofs.Common.{◌≡◌, ◌≤◌, ◌+◌, ◌%◌, ℕ, List, ap, arith, drop, subst}
use Rattle.std.proofs.lemmas.Bool.{MatchBool-at_true}
use Rattle.ring_judge.specs.declared.ring.{RingClaim.RingClaim, judged.Judged.Judged, RingLine.TheVariants.Word}
use Rattle.ring_judge.specs.Ring.{RingState, CanBeWord, read_to}
use Rattle.ring_judge.specs.Judged.{IsJudged, IsReadTo, IsStep, state_of}
use Rattle.ring_judge.proofs.ring.judged.Judged.read_word.Goals as goal

-- the ring with words read up to this position
abbrev with_read : Judged → ℕ → Judged
with_read j to = record {
  capacity = j.capacity;
  start = j.start;
  claims = j.claims;
  passed = j.passed;
  head = j.head;
  tail = j.tail;
  blocked_at = j.blocked_at;
  low = j.low;
  heads = j.heads;
  read = to;
  cursor = j.cursor;
}

-- more words are read, at the same cursor
read_on : (j : Judged) (to : ℕ) → j.read ≤ to → IsJudged j → IsJudged (with_read j to)
read_on j to le its = record {
  power = its.power;
  most = its.most;
  start = its.start;
  passed = its.passed;
  head = its.head;
  tail = its.tail;
  tail_within = its.tail_within;
  ends = its.ends;
  short = its.short;
  order = its.order;
  left_order = its.left_order;
  left_tail = its.left_tail;
  blocked = its.blocked;
  blocked_within = its.blocked_within;
  low = its.low;
  behind = its.behind;
  heads = its.heads;
  cursor = record {
    within = its.cursor.within;
    order = its.cursor.order;
    behind = omega (arith, its.cursor.behind, le);
    same = λ p v past. its.cursor.same p v (omega (arith, past, le));
  };
}

word_read : (old mid : Judged) (at v : ℕ) → IsReadTo old mid at → at % 8 ≡ 0 → at + 1 ≤ old.head + old.capacity
    → CanBeWord at v mid.cursor.end (drop mid.cursor.claim mid.claims.items)
    → IsStep old (with_read mid (at + 8)) (Word at v)
word_read old mid at v read aligned before can = let s = state_of old in
    let here : mid.read ≡ at = ap (λ t. t.read) read.state in
    let word : CanBeWord at v mid.head (drop mid.passed mid.claims.items) =
    (read.judged.cursor.same at v (omega (arith, here))).1 can in
    record {
      allowed = record {
        aligned = aligned;
        before_end = omega (arith, before);
        clear = read.clear;
        word = subst (λ (t : RingState). CanBeWord at v t.head t.left) read.state word;
      };
      judged = read_on mid (at + 8) (omega (arith, here)) read.judged;
      capacity = read.capacity;
      state = ap (λ t. read_to t (at + 8)) read.state;
    }

pub returns : goal.returns
returns c = let mid = c.clear_to.new.self in
    let read = MatchBool-at_true _ _ c.if-not-clear_to.false c.clear_to.ensures in
    let can = subst
    (λ (xs : List RingClaim). CanBeWord c.args.at c.args.value mid.cursor.end (drop mid.cursor.claim xs))
    c.deref.ensures.value (c.can_be_word.ensures.0 c.if-not-can_be_word.false) in
    word_read c.args.self.now mid c.args.at c.args.value read c.if-at-ne0.false
    (omega (arith, c.if-at-self.false, c.from.ensures)) can
