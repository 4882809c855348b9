-- The slots as views change and homes stay.
use Rattle.std.specs.Prelude.{⊤}
use Rattle.std.proofs.Common.{◌≡◌, ◌≢◌, ℕ, ◌≤◌, ◌⊎◌, List, [], ◌∷◌, ◌++◌, true, set, sym, refl, ap, ◌∙◌, subst, inl, ⊎_elim, length, arith}
use Rattle.std.proofs.Math.{Option.Option, Option.some, Option.some-injective, Option.some-ne-none, Decide.ℕ_discrete}
use Rattle.std.proofs.Math.{Logic.dite, ListN.get_elem?}
use Rattle.atomic_table.proofs.Lists.{at_set, set_here, set_else, at_longer, at_last}
use Rattle.ring_table.specs.Staged.{Bodies, in_words, elsewhere, StagedClaim, PlacedMessage, IsStored}
use Rattle.ring_layout.{specs.declared.message.Message.Message, proofs.ListLemmas.at_below}
use Rattle.ring_table.{specs.Views.View, specs.ProducerSteps.HasClaim, proofs.ListLemmas.at_more}
use Rattle.ring_table.specs.Shelf.{IsOut, IsOneOut, IsClaimOf, ReadsFrom, HasReader, HasRight, IsShelf}

-- the claim d is c, as it was before
pub record IsAsWas (d c : StagedClaim) : Type 0 where
  pub stored : IsStored d.stage
  pub place : d.place ≡ c.place
  pub message : d.message ≡ c.message

-- a view has the claim as it was
pub record HasWas (v : View) (c : StagedClaim) : Type 0 where
  pub nth : ℕ
  pub claim : StagedClaim
  pub has : HasClaim v nth claim
  pub was : IsAsWas claim c

-- of all that w has of claims and of the read, v has as much
pub record Carries (v w : View) : Type 0 where
  pub claims : (k : ℕ) (c : StagedClaim) → HasClaim w k c → IsStored c.stage → HasWas v c
  pub reads : w.consumes ≡ true → (v.consumes ≡ true) × (v.consumer.head ≤ w.consumer.head)

-- and w consumes if v does
pub record CarriesOn (v w : View) : Type 0 where
  pub carries : Carries v w
  pub stays : v.consumes ≡ true → w.consumes ≡ true

abbrev pub CarriesIn : Bodies → View → View → Type 0
CarriesIn in_words v w = ⊤
CarriesIn elsewhere v w = CarriesOn v w

-- the claim was there before
record WasThere (views : List View) (c : StagedClaim) : Type 0 where
  pub claim : StagedClaim
  pub has : IsClaimOf views claim
  pub was : IsAsWas claim c

-- what these views have of claims and of the read, a new view has no more
record IsFed (views : List View) (u : View) : Type 0 where
  pub claims : (k : ℕ) (c : StagedClaim) → HasClaim u k c → IsStored c.stage → WasThere views c
  pub reads : u.consumes ≡ true → ReadsFrom views u.consumer.head
  pub out : IsOneOut u

-- a view has the slot i out
record HasOut (C i : ℕ) (views : List View) : Type 0 where
  pub seat : ℕ
  pub view : View
  pub there : get_elem? views seat ≡ some view
  pub out : IsOut C i view

record Follows (C : ℕ) (views views' : List View) : Type 0 where
  pub fed : (id : ℕ) (u : View) → get_elem? views' id ≡ some u → IsFed views u
  pub out : (i : ℕ) → HasOut C i views → HasOut C i views'
  pub reader : HasReader views'

follows : (C : ℕ) (homes : List (Option ℕ)) (views views' : List View) → Follows C views views'
    → IsShelf C homes views → IsShelf C homes views'
follows C homes views views' f s = record {
  wide = s.wide;
  home = λ i inside free. s.home i inside (λ id v there out.
      let t = f.out i (record { seat = id; view = v; there = there; out = out }) in
      free t.seat t.view t.there t.out);
  exact = λ c of reads.
      let t = (f.fed of.seat of.view of.there).claims of.nth c of.has of.stored in
      let r = (f.fed reads.seat reads.view reads.there).reads reads.consumes in
      let head = reads.head in
      let place : t.claim.place ≡ c.place = t.was.place in
      subst (λ (z : ℕ × Message). HasRight C homes z.0 z.1) (λ i. (t.was.place i, t.was.message i))
      (s.exact t.claim t.has (record {
        seat = r.seat;
        view = r.view;
        there = r.there;
        consumes = r.consumes;
        head = omega arith;
      }));
  outs = λ id u there. (f.fed id u there).out;
  reader = f.reader;
}

fed_by : (views : List View) (id : ℕ) (v w : View) → get_elem? views id ≡ some v → Carries v w → w.out ≡ []
    → IsFed views w
fed_by views id v w at c none = record {
  claims = λ k d has stored.
      let t = c.claims k d has stored in
      record {
        claim = t.claim;
        has = record { seat = id; view = v; nth = t.nth; there = at; has = t.has; stored = t.was.stored };
        was = t.was;
      };
  reads = λ consumes.
      let t = c.reads consumes in
      record { seat = id; view = v; there = at; consumes = t.0; head = t.1 };
  out = inl none;
}

fed_same : (views : List View) (id : ℕ) (u : View) → get_elem? views id ≡ some u → IsOneOut u → IsFed views u
fed_same views id u at out = record {
  claims = λ k d has stored. record {
    claim = d;
    has = record { seat = id; view = u; nth = k; there = at; has = has; stored = stored };
    was = record { stored = stored; place = refl; message = refl };
  };
  reads = λ consumes. record { seat = id; view = u; there = at; consumes = consumes; head = omega arith };
  out = out;
}

pub nothing_out : (C i : ℕ) (v : View) → v.out ≡ [] → IsOut C i v → ⊥
nothing_out C i v none o = some-ne-none o.message (ap (λ (l : List PlacedMessage). get_elem? l 0) (sym o.out_is ∙ none))

-- a seat that has nothing out is none of those that have
not_this : (C i : ℕ) (views : List View) (id : ℕ) (v : View) → get_elem? views id ≡ some v → v.out ≡ []
    → (o : HasOut C i views) → o.seat ≢ id
not_this C i views id v at none o same =
    let one : o.view ≡ v = some-injective o.view v (sym o.there ∙ ap (get_elem? views) same ∙ at) in
    nothing_out C i o.view (ap (λ (z : View). z.out) one ∙ none) o.out

-- the reader as one seat steps
reader_after : (views : List View) (id : ℕ) (v w : View) → get_elem? views id ≡ some v
    → (v.consumes ≡ true → w.consumes ≡ true) → HasReader views → HasReader (set views id w)
reader_after views id v w at stays r = dite (ℕ_discrete r.seat id)
    (λ same.
    let one : r.view ≡ v = some-injective r.view v (sym r.there ∙ ap (get_elem? views) same ∙ at) in record {
      seat = id;
      view = w;
      there = set_here views id w (at_below views id v at);
      consumes = stays (ap (λ (z : View). z.consumes) (sym one) ∙ r.consumes);
    })
    (λ other. record {
      seat = r.seat;
      view = r.view;
      there = set_else views id r.seat w other ∙ r.there;
      consumes = r.consumes;
    })

module _ (C : ℕ) (homes : List (Option ℕ)) (views : List View) (s : IsShelf C homes views)
    (id : ℕ) (v : View) (at : get_elem? views id ≡ some v) (none : v.out ≡ []) where
  pub stepped_shelf : (w : View) → w.out ≡ [] → CarriesOn v w → IsShelf C homes (set views id w)
  stepped_shelf w none' c = follows C homes views (set views id w) (record {
    fed = λ j u there. ⊎_elim
        (λ (t : (j ≡ id) × (w ≡ u)). subst (IsFed views) t.1 (fed_by views id v w at c.carries none'))
        (λ (t : (j ≢ id) × (get_elem? views j ≡ some u)). fed_same views j u t.1 (s.outs j u t.1))
        (at_set views id j w u there);
    out = λ i o.
        record {
          seat = o.seat;
          view = o.view;
          there = set_else views id o.seat w (not_this C i views id v at none o) ∙ o.there;
          out = o.out;
        };
    reader = reader_after views id v w at c.stays s.reader;
  }) s

  pub parted_shelf : (left right : View) → left.out ≡ [] → right.out ≡ [] → Carries v left → Carries v right
      → (v.consumes ≡ true → (left.consumes ≡ true) ⊎ (right.consumes ≡ true))
      → IsShelf C homes (set views id left ++ right ∷ [])
  parted_shelf left right none_l none_r c d stays = follows C homes views (set views id left ++ right ∷ []) (record {
    fed = λ j u there. ⊎_elim
        (λ was. ⊎_elim
        (λ (t : (j ≡ id) × (left ≡ u)). subst (IsFed views) t.1 (fed_by views id v left at c none_l))
        (λ (t : (j ≢ id) × (get_elem? views j ≡ some u)). fed_same views j u t.1 (s.outs j u t.1))
        (at_set views id j left u was))
        (λ t. subst (IsFed views) t.1 (fed_by views id v right at d none_r))
        (at_more (set views id left) right u j there);
    out = λ i o.
        record {
          seat = o.seat;
          view = o.view;
          there = at_longer (set views id left) (right ∷ []) o.seat o.view
              (set_else views id o.seat left (not_this C i views id v at none o) ∙ o.there);
          out = o.out;
        };
    reader =
        (let r = s.reader in
        dite (ℕ_discrete r.seat id)
        (λ same.
        let one : r.view ≡ v = some-injective r.view v (sym r.there ∙ ap (get_elem? views) same ∙ at) in
        ⊎_elim
        (λ (is : left.consumes ≡ true). record {
          seat = id;
          view = left;
          there = at_longer (set views id left) (right ∷ []) id left (set_here views id left (at_below views id v at));
          consumes = is;
        })
        (λ (is : right.consumes ≡ true). record {
          seat = length (set views id left);
          view = right;
          there = at_last (set views id left) right (length (set views id left)) refl;
          consumes = is;
        })
        (stays (ap (λ (z : View). z.consumes) (sym one) ∙ r.consumes)))
        (λ other. record {
          seat = r.seat;
          view = r.view;
          there = at_longer (set views id left) (right ∷ []) r.seat r.view
              (set_else views id r.seat left other ∙ r.there);
          consumes = r.consumes;
        }));
  }) s

  -- what both seats have is fed by the one or the other
  pub record CarriesBoth (w both : View) : Type 0 where
    pub claims : (k : ℕ) (c : StagedClaim) → HasClaim both k c → IsStored c.stage → HasWas v c ⊎ HasWas w c
    pub reads : both.consumes ≡ true → ((v.consumes ≡ true) × (v.consumer.head ≤ both.consumer.head))
        ⊎ ((w.consumes ≡ true) × (w.consumer.head ≤ both.consumer.head))
    pub first : v.consumes ≡ true → both.consumes ≡ true
    pub second : w.consumes ≡ true → both.consumes ≡ true

  pub met_shelf : (other : ℕ) (w both spent : View) → other ≢ id → get_elem? (set views id both) other ≡ some w
      → w.out ≡ [] → both.out ≡ [] → CarriesBoth w both → spent.out ≡ []
      → ((k : ℕ) (c : StagedClaim) → HasClaim spent k c → ⊥) → (spent.consumes ≡ true → ⊥)
      → IsShelf C homes (set (set views id both) other spent)
  met_shelf other w both spent ne there none_w none_b c none_s no_claims no_read =
      let was : get_elem? views other ≡ some w = sym (set_else views id other both ne) ∙ there in
      let both_fed : IsFed views both = record {
        claims = λ k d has stored. ⊎_elim
            (λ (t : HasWas v d). record {
              claim = t.claim;
              has = record { seat = id; view = v; nth = t.nth; there = at; has = t.has; stored = t.was.stored };
              was = t.was;
            })
            (λ (t : HasWas w d). record {
              claim = t.claim;
              has = record { seat = other; view = w; nth = t.nth; there = was; has = t.has; stored = t.was.stored };
              was = t.was;
            })
            (c.claims k d has stored);
        reads = λ consumes. ⊎_elim
            (λ t. record { seat = id; view = v; there = at; consumes = t.0; head = t.1 })
            (λ t. record { seat = other; view = w; there = was; consumes = t.0; head = t.1 })
            (c.reads consumes);
        out = inl none_b;
      } in
      let spent_fed : IsFed views spent = record {
        claims = λ k d has stored. absurd (no_claims k d has);
        reads = λ consumes. absurd (no_read consumes);
        out = inl none_s;
      } in
      follows C homes views (set (set views id both) other spent) (record {
        fed = λ j u there'. ⊎_elim
            (λ (t : (j ≡ other) × (spent ≡ u)). subst (IsFed views) t.1 spent_fed)
            (λ (t : (j ≢ other) × (get_elem? (set views id both) j ≡ some u)). ⊎_elim
            (λ (t' : (j ≡ id) × (both ≡ u)). subst (IsFed views) t'.1 both_fed)
            (λ (t' : (j ≢ id) × (get_elem? views j ≡ some u)). fed_same views j u t'.1 (s.outs j u t'.1))
            (at_set views id j both u t.1))
            (at_set (set views id both) other j spent u there');
        out = λ i o.
            record {
              seat = o.seat;
              view = o.view;
              there = set_else (set views id both) other o.seat spent (not_this C i views other w was none_w o)
                  ∙ set_else views id o.seat both (not_this C i views id v at none o) ∙ o.there;
              out = o.out;
            };
        reader =
            (let r = s.reader in
            let it : (both.consumes ≡ true) → HasReader (set (set views id both) other spent) = λ is. record {
              seat = id;
              view = both;
              there = set_else (set views id both) other id spent (λ e. ne (sym e))
                  ∙ set_here views id both (at_below views id v at);
              consumes = is;
            } in
            dite (ℕ_discrete r.seat id)
            (λ same.
            let one : r.view ≡ v = some-injective r.view v (sym r.there ∙ ap (get_elem? views) same ∙ at) in
            it (c.first (ap (λ (z : View). z.consumes) (sym one) ∙ r.consumes)))
            (λ not_id. dite (ℕ_discrete r.seat other)
            (λ same.
            let one : r.view ≡ w = some-injective r.view w (sym r.there ∙ ap (get_elem? views) same ∙ was) in
            it (c.second (ap (λ (z : View). z.consumes) (sym one) ∙ r.consumes)))
            (λ not_other. record {
              seat = r.seat;
              view = r.view;
              there = set_else (set views id both) other r.seat spent not_other
                  ∙ set_else views id r.seat both not_id ∙ r.there;
              consumes = r.consumes;
            })));
      }) s
