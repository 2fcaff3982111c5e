-- Laws of paths that crate `orders` has no need of: the last arrow, and arrows that are paths of another graph. Assumes nothing.
use Prim.Native.Nat.{ℕ}
use mathlib.Core.Path.{◌≡◌, refl, subst}
use mathlib.Core.Logic.{◌⊎◌, inl, inr}
use mathlib.Core.Bool.{Bool, true}
use Rattle.orders.specs.Graph.{Leads, here, step}
use Rattle.orders.proofs.Graph.{leads_trans}

-- the last arrow of a path
pub last_arrow : {e : ℕ → ℕ → Bool} {i k : ℕ} → Leads e i k → (i ≡ k) ⊎ ((j : ℕ) × Leads e i j × (e j k ≡ true))
last_arrow (here p) = inl p
last_arrow {e} (step {i = i} {j = j} {k = k} h q) = inr (go (last_arrow q))
  where
    go : (j ≡ k) ⊎ ((m : ℕ) × Leads e j m × (e m k ≡ true)) → (m : ℕ) × Leads e i m × (e m k ≡ true)
    go (inl p) = (i, here refl, subst (λ z. e i z ≡ true) p h)
    go (inr r) = (r.0, step h r.1, r.2)

-- where each arrow of one graph is a path of another, so is each path
pub leads_paths : {e f : ℕ → ℕ → Bool} {i j : ℕ} → ((a b : ℕ) → e a b ≡ true → Leads f a b) → Leads e i j → Leads f i j
leads_paths m (here p) = here p
leads_paths m (step {i = i} {j = j} h q) = leads_trans (m i j h) (leads_paths m q)
