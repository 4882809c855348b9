-- Batches that a producer writes.
use Rattle.std.proofs.Common.{◌≡◌, ℕ, ◌+◌, ◌<◌, ◌≤◌, ℤ, pos, ◌-◌, suc, List, [], ◌∷◌, ◌++◌, Bool, length, take, drop, get_or, refl, sym, ap, ◌∙◌, subst, append_assoc, arith, length-append, inl, inr, slice_set, append-nil, length-drop, length-take-le, take-append-drop, take_all}
use Rattle.std.proofs.lemmas.List.{drop_more, take_more, take_more_set, take_rest}
use Rattle.ring_layout.specs.declared.message.Message.{Message}
use Rattle.ring_table.{specs.declared.runs.Outgoing.Outgoing, specs.declared.view.View.View, proofs.RunFill.messages_on}
use Rattle.ring_table.specs.RunBodies.{message_of, messages_of}
use Rattle.ring_rings.specs.Ring.{sent_in}
use Rattle.ring_handles.specs.{Batch.laid_end, Batch.span_in, Producing.IsRefused}
use Rattle.ring_handles.specs.WritingBatch.{AreRecords, Begins, HasRest, IsBatch, IsInside, IsRecord, StopsAt, WritesSome, message_at, word_at}

-- Lists --------------------------------------------------------------------------

pub messages_append : (xs ys : List Outgoing) → messages_of (xs ++ ys) ≡ messages_of xs ++ messages_of ys
messages_append [] ys = refl
messages_append (x ∷ xs) ys = ap (λ l. message_of x ∷ l) (messages_append xs ys)

-- one more message is put into a chunk
pub put_more : (os : List Outgoing) (k : ℕ) (o : Outgoing) → k < length os
    → messages_of (take (k + 1) (slice_set os k o)) ≡ messages_of (take k os) ++ message_of o ∷ []
put_more os k o less = ap messages_of (take_more_set os k o less) ∙ messages_append (take k os) (o ∷ [])

-- Records ------------------------------------------------------------------------

-- the body of a record is as long as the record says
pub body_length : (bytes : List ℕ) (at n : ℕ) → at + 16 + n ≤ length bytes → length (take n (drop (at + 16) bytes)) ≡ n
body_length bytes at n inside =
    let rest = length-drop (at + 16) bytes in
    length-take-le n (drop (at + 16) bytes) (omega arith)

records_append : (C : ℕ) (bytes : List ℕ) (at : ℕ) (ms : List Message) (m : Message) → AreRecords C bytes at ms
    → IsRecord C bytes (laid_end at ms) → m ≡ message_at bytes (laid_end at ms) → AreRecords C bytes at (ms ++ m ∷ [])
records_append C bytes at [] m are is same = (is, same, tt)
records_append C bytes at (x ∷ ms) m are is same =
    (are.0, are.1, records_append C bytes (at + span_in (length x.body)) ms m are.2 is same)

end_append : (at : ℕ) (ms : List Message) (m : Message) → laid_end at (ms ++ m ∷ []) ≡ laid_end at ms + span_in (length m.body)
end_append at [] m = refl
end_append at (x ∷ ms) m = end_append (at + span_in (length x.body)) ms m

-- these messages are the records up to a byte
abbrev pub AreUpto : ℕ → List ℕ → ℕ → Type 0
AreUpto C bytes at = (ms : List Message) × AreRecords C bytes 0 ms × (laid_end 0 ms ≡ at)

-- one more record was tested
pub upto_next : (C : ℕ) (bytes : List ℕ) (at next : ℕ) → AreUpto C bytes at → IsRecord C bytes at
    → next ≡ at + span_in (word_at bytes at) → AreUpto C bytes next
upto_next C bytes at next upto is goes =
    let ms : List Message = upto.0 in
    let m : Message = message_at bytes at in
    let long = body_length bytes at (word_at bytes at) is.inside in
    let here = subst (IsRecord C bytes) (sym upto.2) is in (
      ms ++ m ∷ [],
      records_append C bytes 0 ms m upto.1 here (ap (message_at bytes) (sym upto.2)),
      end_append 0 ms m ∙ ap (λ (a : ℕ). a + span_in (length m.body)) upto.2
          ∙ ap (λ (n : ℕ). at + span_in n) long ∙ sym goes,
    )

-- from a byte inside the bytes on there is one more record
pub first_record : (C : ℕ) (bytes : List ℕ) (at : ℕ) (ms : List Message) → HasRest C bytes at ms → at < length bytes
    → (rest : List Message) × (ms ≡ message_at bytes at ∷ rest) × IsRecord C bytes at
    × HasRest C bytes (at + span_in (word_at bytes at)) rest
first_record C bytes at [] has less = let whole = has.whole in absurd (omega arith)
first_record C bytes at (m ∷ ms) has less =
    let is = has.records.0 in
    let same = has.records.1 in
    let long : length m.body ≡ word_at bytes at =
    ap (λ (x : Message). length x.body) same ∙ body_length bytes at (word_at bytes at) is.inside in (
      ms,
      ap (λ (x : Message). x ∷ ms) same,
      is,
      record {
        records = subst (λ (n : ℕ). AreRecords C bytes (at + span_in n) ms) long has.records.2;
        whole = subst (λ (n : ℕ). length bytes ≤ laid_end (at + span_in n) ms) long has.whole;
      },
    )

pub begins_none : (C : ℕ) (bytes : List ℕ) (start : ℕ) → Begins C bytes start [] start
begins_none C bytes start = λ ms has. (ms, refl, has)

pub begins_more : (C : ℕ) (bytes : List ℕ) (start : ℕ) (got : List Message) (at : ℕ) → at < length bytes
    → Begins C bytes start got at
    → Begins C bytes start (got ++ message_at bytes at ∷ []) (at + span_in (word_at bytes at))
begins_more C bytes start got at less begins = λ ms has.
    let (rest, is, left) = begins ms has in
    let (after, first, ok, more) = first_record C bytes at rest left less in
    (after, is ∙ ap (λ (l : List Message). got ++ l) first ∙ sym (append_assoc got (message_at bytes at ∷ []) after), more)

pub begins_on : (C : ℕ) (bytes : List ℕ) (start : ℕ) (got : List Message) (at : ℕ) (next : List Message) (end : ℕ)
    → Begins C bytes start got at → Begins C bytes at next end → Begins C bytes start (got ++ next) end
begins_on C bytes start got at next end begins goes = λ ms has.
    let (rest, is, left) = begins ms has in
    let (after, first, more) = goes rest left in
    (after, is ∙ ap (λ (l : List Message). got ++ l) first ∙ sym (append_assoc got next after), more)

-- the next record, if there is one before the end of the bytes
pub next_record : (bytes : List ℕ) (start : ℕ) (got : List Message) (at : ℕ)
    → ((C : ℕ) → Begins C bytes start got at) → ((C : ℕ) × (ms : List Message) × HasRest C bytes start ms)
    → at < length bytes → (C : ℕ) × IsRecord C bytes at
next_record bytes start got at begins has less =
    let left = begins has.0 has.1 has.2 in
    let first = first_record has.0 bytes at left.0 left.2 less in
    (has.0, first.2)

-- one more message was gathered
pub gathers_more : (bytes : List ℕ) (start at span : ℕ) (os : List Outgoing) (k : ℕ) (o : Outgoing) → k < length os
    → at < length bytes → ((C : ℕ) → Begins C bytes start (messages_of (take k os)) at)
    → message_of o ≡ message_at bytes at → span ≡ span_in (length o.body.now) → IsInside bytes at
    → (C : ℕ) → Begins C bytes start (messages_of (take (k + 1) (slice_set os k o))) (at + span)
gathers_more bytes start at span os k o room less begins is goes inside C =
    let more = begins_more C bytes start (messages_of (take k os)) at less (begins C) in
    let list = put_more os k o room ∙ ap (λ (m : Message). messages_of (take k os) ++ m ∷ []) is in
    let long : span ≡ span_in (word_at bytes at) = goes ∙ ap (λ (m : Message). span_in (length m.body)) is
    ∙ ap (λ (n : ℕ). span_in n) (body_length bytes at (word_at bytes at) inside) in
    subst (λ (e : ℕ). Begins C bytes start (messages_of (take (k + 1) (slice_set os k o))) (at + e)) (sym long)
    (subst (λ (l : List Message). Begins C bytes start l (at + span_in (word_at bytes at))) (sym list) more)

-- at the end of the bytes nothing is left
pub none_left : (C : ℕ) (bytes : List ℕ) (at : ℕ) (ms : List Message) → HasRest C bytes at ms → length bytes ≤ at → ms ≡ []
none_left C bytes at [] has over = refl
none_left C bytes at (m ∷ ms) has over = let inside = has.records.0.inside in absurd (omega arith)

-- Writing ------------------------------------------------------------------------

-- a stop is before the end
pub stops_within : (many : Bool) (C : ℕ) (ms : List Message) (n : ℕ) (code : ℤ) (v w : View)
    → StopsAt many C ms n code v w → n < length ms
stops_within many C ms n code v w stops =
    let all = ap length stops.split ∙ length-append stops.written (stops.next ∷ stops.later) in
    let count = stops.count in
    omega arith

-- a stop among messages that come after others, and before others
pub stops_later : (many : Bool) (C : ℕ) (front ms back : List Message) (n : ℕ) (code : ℤ) (u v w : View)
    → sent_in v ≡ sent_in u ++ front → StopsAt many C ms n code v w
    → StopsAt many C (front ++ (ms ++ back)) (length front + n) code u w
stops_later many C front ms back n code u v w was stops = record {
  written = front ++ stops.written;
  next = stops.next;
  later = stops.later ++ back;
  split = ap (λ (l : List Message). front ++ (l ++ back)) stops.split
      ∙ ap (λ (l : List Message). front ++ l) (append_assoc stops.written (stops.next ∷ stops.later) back)
      ∙ sym (append_assoc front stops.written (stops.next ∷ (stops.later ++ back)));
  count = ap (λ (k : ℕ). length front + k) stops.count ∙ sym (length-append front stops.written);
  sent = stops.sent ∙ ap (λ (l : List Message). l ++ stops.written) was
      ∙ append_assoc (sent_in u) front stops.written;
  before = stops.before;
  so_far = stops.so_far ∙ ap (λ (l : List Message). l ++ stops.written) was
      ∙ append_assoc (sent_in u) front stops.written;
  refused = stops.refused;
}

-- the first messages of what is left of a list
pub sent_on : (os : List Outgoing) (a n : ℕ) (u x y : List Message) → x ≡ u ++ messages_of (take a os)
    → y ≡ x ++ messages_of (take n (take (length os - a) (drop a os))) → y ≡ u ++ messages_of (take (a + n) os)
sent_on os a n u x y was is = is
    ∙ ap (λ (l : List Outgoing). x ++ messages_of (take n l)) (take_rest os a)
    ∙ ap (λ (l : List Message). l ++ messages_of (take n (drop a os))) was
    ∙ append_assoc u (messages_of (take a os)) (messages_of (take n (drop a os)))
    ∙ ap (λ (l : List Message). u ++ l) (sym (messages_on os a n))

-- one more
pub sent_next : (os : List Outgoing) (k : ℕ) (d : Outgoing) (u x y : List Message) → k < length os
    → x ≡ u ++ messages_of (take k os) → y ≡ x ++ message_of (get_or os k d) ∷ []
    → y ≡ u ++ messages_of (take (k + 1) os)
sent_next os k d u x y less was is = is
    ∙ ap (λ (l : List Message). l ++ message_of (get_or os k d) ∷ []) was
    ∙ append_assoc u (messages_of (take k os)) (message_of (get_or os k d) ∷ [])
    ∙ ap (λ (l : List Message). u ++ l)
    (sym (ap messages_of (take_more os k d less) ∙ messages_append (take k os) (get_or os k d ∷ [])))

-- all of them
pub sent_all : (os : List Outgoing) (k : ℕ) (u x : List Message) → length os ≤ k
    → x ≡ u ++ messages_of (take k os) → x ≡ u ++ messages_of os
sent_all os k u x over was = was ∙ ap (λ (l : List Outgoing). u ++ messages_of l) (take_all k os over)

pub messages_length : (os : List Outgoing) → length (messages_of os) ≡ length os
messages_length [] = refl
messages_length (o ∷ os) = ap (λ (n : ℕ). suc n) (messages_length os)

-- the first messages were written, and the next one was refused
pub stops_at : (many : Bool) (C : ℕ) (os : List Outgoing) (k : ℕ) (d : Outgoing) (code : ℤ) (v before w : View)
    → k < length os → sent_in before ≡ sent_in v ++ messages_of (take k os) → sent_in w ≡ sent_in before
    → IsRefused many C (get_or os k d).type_id (length (get_or os k d).body.now) before w code
    → StopsAt many C (messages_of os) k code v w
stops_at many C os k d code v before w less was stays refused = record {
  written = messages_of (take k os);
  next = message_of (get_or os k d);
  later = messages_of (drop (k + 1) os);
  split = ap messages_of (sym (take-append-drop k os)) ∙ messages_append (take k os) (drop k os)
      ∙ ap (λ (l : List Outgoing). messages_of (take k os) ++ messages_of l) (drop_more os k d less);
  count = sym (messages_length (take k os) ∙ length-take-le k os (omega arith));
  sent = stays ∙ was;
  before = before;
  so_far = was;
  refused = refused;
}

-- these messages were written, which are the first ones of a batch, up to this byte
pub record Wrote (bytes : List ℕ) (at count : ℕ) (v w : View) : Type 0 where
  pub done : List Message
  pub begins : (C : ℕ) → Begins C bytes 0 done at
  pub count_is : count ≡ length done
  pub sent : sent_in w ≡ sent_in v ++ done

pub wrote_none : (bytes : List ℕ) (v : View) → Wrote bytes 0 0 v v
wrote_none bytes v = record {
  done = [];
  begins = λ C. begins_none C bytes 0;
  count_is = refl;
  sent = sym (append-nil (sent_in v));
}

-- a chunk more was written
pub wrote_more : (bytes : List ℕ) (at count n end : ℕ) (os : List Outgoing) (u v w : View) → n ≤ length os
    → Wrote bytes at count u v → ((C : ℕ) → Begins C bytes at (messages_of (take n os)) end)
    → sent_in w ≡ sent_in v ++ messages_of (take n os) → Wrote bytes end (count + n) u w
wrote_more bytes at count n end os u v w inside was gathers is = record {
  done = was.done ++ messages_of (take n os);
  begins = λ C. begins_on C bytes 0 was.done at (messages_of (take n os)) end (was.begins C) (gathers C);
  count_is = ap (λ (k : ℕ). k + n) was.count_is
      ∙ ap (λ (k : ℕ). length was.done + k) (sym (messages_length (take n os) ∙ length-take-le n os inside))
      ∙ sym (length-append was.done (messages_of (take n os)));
  sent = is ∙ ap (λ (l : List Message). l ++ messages_of (take n os)) was.sent
      ∙ append_assoc (sent_in u) was.done (messages_of (take n os));
}

-- what is left of a batch
pub wrote_rest : (C : ℕ) (bytes : List ℕ) (at count : ℕ) (u v : View) → Wrote bytes at count u v
    → ((ms : List Message) × IsBatch C bytes ms) → (D : ℕ) × (rest : List Message) × HasRest D bytes at rest
wrote_rest C bytes at count u v was batch =
    let left = was.begins C batch.0 batch.1.rest in
    (C, left.0, left.2)

-- the whole batch was written
pub wrote_all : (many : Bool) (C : ℕ) (bytes : List ℕ) (at count : ℕ) (ms : List Message) (u v : View)
    → length bytes ≤ at → Wrote bytes at count u v → IsBatch C bytes ms → WritesSome many C ms count (pos 0) u v
wrote_all many C bytes at count ms u v over was batch =
    let left = was.begins C ms batch.rest in
    let none = none_left C bytes at left.0 left.2 over in
    let all : ms ≡ was.done = left.1 ∙ ap (λ (l : List Message). was.done ++ l) none ∙ append-nil was.done in
    inl (refl, was.count_is ∙ ap length (sym all), was.sent ∙ ap (λ (l : List Message). sent_in u ++ l) (sym all))

-- a chunk was written in part
pub wrote_part : (many : Bool) (C : ℕ) (bytes : List ℕ) (at count n end some : ℕ) (code : ℤ) (os : List Outgoing)
    (ms : List Message) (u v w : View) → Wrote bytes at count u v
    → ((D : ℕ) → Begins D bytes at (messages_of (take n os)) end) → StopsAt many C (messages_of (take n os)) some code v w
    → IsBatch C bytes ms → WritesSome many C ms (count + some) code u w
wrote_part many C bytes at count n end some code os ms u v w was gathers stops batch =
    let left = was.begins C ms batch.rest in
    let next = gathers C left.0 left.2 in
    let all : ms ≡ was.done ++ (messages_of (take n os) ++ next.0) =
    left.1 ∙ ap (λ (l : List Message). was.done ++ l) next.1 in
    let later = stops_later many C was.done (messages_of (take n os)) next.0 some code u v w was.sent stops in
    inr (subst (λ (k : ℕ). StopsAt many C ms (k + some) code u w) (sym was.count_is)
    (subst (λ (l : List Message). StopsAt many C l (length was.done + some) code u w) (sym all) later))
