-- The machine values of a handle, and what it owns. Assumes `Logic`.
use Rattle.std.proofs.Common.{◌≡◌, ℕ, List, [], ◌∷◌, ◌++◌, refl, subst, lit<, T}
use seplogic.Ra.Ura.{Ura}
use mir.Syntax.{impl, tnil, dnil}
use mir.Raw.{raw as bare}
use mir.Val.{Val, vstruct, of_list, has_ty, WT}
use base.Logic.{ent, via, guard, guard_i, snd∗}
use base.Fml.{ftrue, fsep, fex}
use base.Fraction.{full_share}
use types.Logic.{Logic, sem}
use types.Kit.{Item, Goal, Seq, Step, step, ‵, ◌$◌, given, move, drop, fsplit, fjoin, fpick, fpack, feq_i, feq_l, use1, learn}
use contract.Monad.{fact_use}
use denote.RattleType.{RattleType, Valss}
use denote.Builtin.{RawPtr}
use denote.Memory.{lone}
use denote.RawPtr.{Ptr, block_ptr, null_ptr, ptr_val, lies_at, Testable}
use denote.Steps.{nothing}
use denote.Param.{layout}
use denote.Struct.{Struct.within, Owning.shape, Owning.to}
use Rattle.core.proofs.{alloc.Calls.Al, alloc.Calls.handle_tells, cell.Inside.Good}
use Rattle.std_alloc.proofs.ResultValues.{and_tt}
use Rattle.std.{proofs.GlobalToken.dealloc_token-Testable, specs.declared.alloc.Global.Global}
use Rattle.std.specs.declared.option.Option.{Option, TheVariants.None, TheVariants.Some}
use Rattle.std.specs.contracts.alloc.Global as heap
use Rattle.std.proofs.alloc.Global.TheLaws as heap_laws
use Rattle.std.specs.contracts.impls.GlobalAllocator.TheImpl.{ghosts}
use Rattle.ring_handles.{proofs.Values.both, specs.Owned.boxed, specs.Owned.handle_owns}
use Rattle.ring_handles.specs.contracts.held.Held.{the_row as R}
use Rattle.ring_handles.specs.contracts.handle.Handle as handle

abbrev pub Z : RattleType
Z = heap.the_row

abbrev pub Handle : RattleType
Handle = handle.the_row

abbrev al : Al
al = record { row = Z; laws = heap_laws.the_row_laws; g = ghosts; d = impl [] tnil dnil; drops = impl [] tnil dnil }

pub handle_good : (p : Ptr) (h : Val) → Good (layout Z) h
    → T (has_ty (layout Handle) (both (ptr_val p) h)) × WT (both (ptr_val p) h)
handle_good (block_ptr b o) h fits = (and_tt (has_ty (layout Z) h) fits.0, (tt, (fits.1, tt)))
handle_good null_ptr h fits = (and_tt (has_ty (layout Z) h) fits.0, (record { fits = lit< tt }, (fits.1, tt)))

module _ {M : Type 1} {𝓤 : Ura M} {𝓛 : Logic 𝓤} {K : Type 0} {Γ : List (Item 𝓤)} {G : Goal 𝓤 𝓛.H} where
  pub handle_out : K → (d : Handle.Denot) (vs : List Val)
      → ((h : Val) → vs ≡ both (ptr_val d.at) h ∷ [] → Good (layout Z) h
      → Seq K 𝓛 (‵ (handle_owns R d.alloc d.at d.held) ∷ ‵ (Z.own_val d.alloc (h ∷ [])) ∷ Γ) G)
      → Seq K 𝓛 (‵ (Handle.own_val d vs) ∷ Γ) G
  handle_out t d vs k =
      fsplit t $ fpick t (λ vss. fsplit t $ feq_l t
      (λ ev. fsplit t $ feq_l t (λ ep. fsplit t $ handle_tells al t d.alloc vss.1.0
      (λ h ea fits. move t (1 ∷ []) $ drop t $ move t (1 ∷ []) $
      k h (subst (λ (ws : List Val). vs ≡ vstruct (of_list (ptr_val d.at ∷ (ws ++ []))) ∷ []) ea
      (subst (λ (ps : List Val). vs ≡ vstruct (of_list (ps ++ (vss.1.0 ++ []))) ∷ []) ep ev)) fits))))

  pub handle_in : K → (p : Ptr) (h : Val) (a : Global) (m : Option R.Denot)
      → Step K 𝓛 (‵ (Handle.own_val (record { at = p; alloc = a; held = m }) (both (ptr_val p) h ∷ [])) ∷ Γ) G
      (‵ (handle_owns R a p m) ∷ ‵ (Z.own_val a (h ∷ [])) ∷ Γ) G
  handle_in t p h a m = step (λ s. let v : Val = both (ptr_val p) h in
      nothing t $ move t (2 ∷ 0 ∷ []) $ fjoin t $ feq_i t (List Val) (ptr_val p ∷ [])
      (ptr_val p ∷ []) refl $ fjoin t $ feq_i t (List Val) (v ∷ []) (v ∷ []) refl $ fjoin t $
      fpack t (Valss (RawPtr ∷ Z ∷ [])) (within (shape handle.the_type)
      (to handle.the_type (record { at = p; alloc = a; held = m })) (v ∷ []))
      (ptr_val p ∷ [], (h ∷ [], tt)) $ fjoin t $ s)

  -- a box is what a handle owns
  pub owned_in : K → (a : Global) (b o : ℕ) (x : R.Denot)
      → Step K 𝓛 (‵ (handle_owns R a (block_ptr b o) (Some x)) ∷ Γ) G (‵ (boxed R a (block_ptr b o) x) ∷ Γ) G
  owned_in t a b o x = step (λ s. nothing t $ fpack t (Some x ≡ Some x) (λ _. ftrue) refl $ fjoin t $
      fpack t R.Denot (λ y. fsep (fex (Some x ≡ Some y) (λ _. ftrue)) (boxed R a (block_ptr b o) y)) x $ s)

  -- at null nothing is owned
  pub none_in : K → (a : Global) → Step K 𝓛 (‵ (handle_owns R a null_ptr None) ∷ Γ) G Γ G
  none_in t a = step (λ s. nothing t $ fpack t (None ≡ None) (λ _. ftrue) refl $ s)

tested : {M : Type 1} {𝓤 : Ura M} (𝓛 : Logic 𝓤) (a : Global) (p : Ptr) (x : R.Denot)
    → ent 𝓤 (sem 𝓛 (boxed R a p x)) (guard 𝓤 (Testable p) (sem 𝓛 (boxed R a p x)))
tested {𝓤 = 𝓤} 𝓛 a p x = let B = sem 𝓛 (boxed R a p x) in
    fact_use 𝓤 (Testable p)
    (via 𝓤 _ (snd∗ 𝓤 (sem 𝓛 (lies_at R full_share p x)) (sem 𝓛 (ghosts.dealloc_token a (bare (lone R.mir)) p)))
    (dealloc_token-Testable 𝓛 a (bare (lone R.mir)) p)) (guard_i 𝓤 (Testable p) B)

module _ {M : Type 1} {𝓤 : Ura M} {𝓛 : Logic 𝓤} {K : Type 0} {Γ : List (Item 𝓤)} {G : Goal 𝓤 𝓛.H} (a : Global) where
  pub either_owned : K → (p : Ptr) (m : Option R.Denot) → (p ≡ null_ptr → m ≡ None → Seq K 𝓛 Γ G)
      → ((b o : ℕ) (x : R.Denot) → p ≡ block_ptr b o → m ≡ Some x → Testable (block_ptr b o)
      → Seq K 𝓛 (‵ (boxed R a (block_ptr b o) x) ∷ Γ) G)
      → Seq K 𝓛 (‵ (handle_owns R a p m) ∷ Γ) G
  either_owned t null_ptr m none one = fpick t (λ e. drop t $ none refl e)
  either_owned t (block_ptr b o) m none one = fpick t (λ x. fsplit t $ fpick t (λ e. drop t $
      use1 𝓛 (given (Testable (block_ptr b o)) (‵ (boxed R a (block_ptr b o) x)))
      (tested 𝓛 a (block_ptr b o) x) $ learn t (λ u. one b o x refl e u)))
