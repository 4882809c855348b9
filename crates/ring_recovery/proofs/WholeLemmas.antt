-- The headers of all claims, and what they give.
use Rattle.std.proofs.Common.{◌≡◌, ℕ, ◌+◌, ◌-◌, ◌*◌, ◌/◌, List, [], ◌∷◌, ◌++◌, length, refl, sym, ap, ◌∙◌, subst, arith}
use Rattle.ring_layout.specs.History.{span}
use Rattle.ring_table.specs.{Staged.claim_end, declared.claim.StagedClaim.StagedClaim}
use Rattle.ring_recovery.proofs.ScanLemmas.{listed, split}
use Rattle.ring_recovery.proofs.GivenLemmas.{AreShown, Gives, HaveAll}
use Rattle.ring_recovery.proofs.ClaimLemmas.{begins, bounds, end_below, padding_gives, place_aligned, record_gives, rest_shown}

pub gives : (C tail : ℕ) (slots : List ℕ) (shown : ℕ → ℕ) (e m : ℕ) (cs : List StagedClaim)
    → AreShown C tail shown e cs → HaveAll C slots cs → tail ≡ e + 8 * m
    → Gives C tail slots e cs (listed shown m e)
gives C tail slots shown e m [] a have is =
    let none : m ≡ 0 = let ends = a.ends in omega (arith, ends, is) in
    subst (λ k. Gives C tail slots e [] (listed shown k e)) (sym none)
    record { messages = refl; claims = refl; none = λ _ _. refl }
gives C tail slots shown e m (c ∷ cs) a have is =
    let b = bounds C tail slots shown e c cs a in
    let on = begins C tail slots shown e c cs a in
    let p8 = place_aligned C tail slots shown e c cs a in
    let below = end_below C tail slots shown e c cs a in
    let x : ℕ = (c.place - e) / 8 in
    let y : ℕ = span (length c.message.body) / 8 in
    let z : ℕ = (tail - claim_end c) / 8 in
    let e8 = a.aligned in
    let parts : x + (y + z) ≡ m = omega (arith, b, on, p8, below, is, e8) in
    let at : e + 8 * x ≡ c.place = omega (arith, on, p8, e8) in
    let next : c.place + 8 * y ≡ claim_end c = omega (arith, b) in
    let rest : tail ≡ claim_end c + 8 * z = omega (arith, b, on, p8, below, is, e8) in
    let later : Gives C tail slots (claim_end c) cs (listed shown z (claim_end c)) =
    gives C tail slots shown (claim_end c) z cs (rest_shown C tail slots shown e c cs a) have.1 rest in
    let whole : listed shown x e ++ (listed shown y c.place ++ listed shown z (claim_end c))
    ≡ listed shown m e =
    ap (λ q. listed shown x e ++ (listed shown y c.place ++ listed shown z q)) (sym next)
    ∙ ap (λ l. listed shown x e ++ l) (sym (split shown y z c.place))
    ∙ ap (λ q. listed shown x e ++ listed shown (y + z) q) (sym at)
    ∙ sym (split shown x (y + z) e)
    ∙ ap (λ k. listed shown k e) parts in
    subst (Gives C tail slots e (c ∷ cs)) whole
    (padding_gives C tail slots shown e c cs a
    (listed shown y c.place ++ listed shown z (claim_end c))
    (record_gives C tail slots shown e c cs a (listed shown z (claim_end c)) later have.0))
