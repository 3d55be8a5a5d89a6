-- In a well-formed table all conflict comes from branches: two records conflict if they are two arms of one, or if the parent of one of them conflicts with the other.
use mathlib.Core.Path.{◌≡◌, refl, sym, subst, ◌∙◌}
use mathlib.Core.Logic.{◌⊎◌, inl, inr, ⊎_elim, ◌↔◌}
use Prim.Native.Nat.{ℕ, ◌<◌}
use native.Mathlib.Omega.{arith}
use Rattle.laws.specs.Steps.{one, more}
use Rattle.laws.proofs.Closure.{tri}
use Rattle.model.specs.Table.{Table, Inside, thread, Parent, IsInit}
use Rattle.model.specs.Relations.{Po, AtOrAbove, equal, above, Apart, Conflict}
use Rattle.model.specs.WellFormed.{WellFormed}
use Rattle.model.proofs.Facts.{root, has_parent, parent_inside, parent_earlier, thread_of_parent}
use Rattle.model.proofs.Laws.{ConflictBy, themselves, first_parent, second_parent, conflict_iff_cases, conflict_sym, po_iff_parent}
use Rattle.model.proofs.Threads.{init_of, one_init}
use Rattle.model.proofs.Within.{po_rises}
use Rattle.links.specs.Arms.{Arms}
use Rattle.links.specs.Links.{Linked}
use Rattle.links.proofs.Linking.{to_linked}

-- conflict by branches: of a's parent with b, of a with b's parent, or as the two are arms themselves
abbrev pub ByBranch : Table → ℕ → ℕ → Type 0
ByBranch t a b = (Linked (t.at a).parent (λ p. Conflict t p b) ⊎ Linked (t.at b).parent (λ p. Conflict t a p)) ⊎ Arms t a b

module _ {t : Table} (ok : WellFormed t) where
  -- two records that are apart conflict
  pub apart_conflict : {a b : ℕ} → Inside t a → Inside t b → Apart t a b → Conflict t a b
  apart_conflict h k x = (conflict_iff_cases ok h k).1 (themselves x)

  -- nothing between a record and its parent is above it
  pub not_between : {a p b : ℕ} → Parent t p b → p < a → ¬ Po t a b
  not_between {a} {p} {b} e l u =
      ⊎_elim (λ (q : a ≡ p). omega arith) (λ v. let r = po_rises ok v in omega arith) ((po_iff_parent t a p b e).0 u)

  pub arms_apart : {a b : ℕ} → Arms t a b → Apart t a b
  arms_apart {a} {b} x = record {
    one_thread = x.one_thread;
    differ = x.differ;
    not_above = not_between x.of_b (parent_earlier ok x.parent a x.of_a);
    not_below = not_between x.of_a (parent_earlier ok x.parent b x.of_b);
  }

  -- ---- two records that are apart are arms, or one of them is apart from the other's parent

  -- its whole thread stands below an Init
  pub not_init : {a b : ℕ} → Inside t a → Inside t b → thread t a ≡ thread t b → ¬ (a ≡ b) → ¬ Po t a b → ¬ IsInit t a
  not_init {a} {b} h k e differ n i =
      let c = init_of ok b k in
      by differ n (subst (λ (x : ℕ). AtOrAbove t x b) (one_init ok c.inside h c.init i (c.one_thread ∙ sym e)) c.at_or_above)
    where
      by : {x : ℕ} → ¬ (a ≡ x) → ¬ Po t a x → AtOrAbove t a x → ⊥
      by d o (equal z) = d refl
      by d o (above u) = o u

  parent_in_thread : {a : ℕ} → Inside t a → ¬ IsInit t a → (p : ℕ) × (Parent t p a × (thread t a ≡ thread t p))
  parent_in_thread {a} h i =
      let (p, e) = has_parent ok a h (λ z. i (subst (IsInit t) (sym z) (root ok).init)) in
      (p, (e, thread_of_parent ok p a e i))

  -- the later parent is apart from the other record
  apart_from_parent : {a b p q : ℕ} → Parent t p a → Parent t q b → thread t a ≡ thread t q → p < q → ¬ Po t a b → Apart t a q
  apart_from_parent {a} {b} {p} {q} e f same l n = record {
    one_thread = same;
    differ = λ x. n (one (subst (λ (z : ℕ). Parent t z b) (sym x) f));
    not_above = λ u. n (more u f);
    not_below = not_between e l;
  }

  pub parent_within : {p a : ℕ} → Parent t p a → Inside t p
  parent_within {p} {a} e = omega (arith, parent_earlier ok p a e, parent_inside ok p a e)

  apart_by_branch : {a b : ℕ} → Inside t a → Inside t b → Apart t a b → ByBranch t a b
  apart_by_branch {a} {b} h k x =
      let (p, (e, s)) = parent_in_thread h (not_init h k x.one_thread x.differ x.not_above) in
      let (q, (f, r)) = parent_in_thread k (not_init k h (sym x.one_thread) (λ z. x.differ (sym z)) x.not_below) in
      tri p q (λ l. inl (inr (to_linked f (apart_conflict h (parent_within f) (apart_from_parent e f (x.one_thread ∙ r) l x.not_above)))))
      (λ z. inr (record { parent = p; of_a = e; of_b = subst (λ (y : ℕ). Parent t y b) (sym z) f; one_thread = x.one_thread; differ = x.differ }))
      (λ g. inl (inl (to_linked e (conflict_sym (apart_conflict k (parent_within e) (apart_from_parent f e (sym x.one_thread ∙ s) g x.not_below))))))

  -- ---- conflict by branches

  pub conflict_iff_branch : {a b : ℕ} → Inside t a → Inside t b → Conflict t a b ↔ ByBranch t a b
  conflict_iff_branch {a} {b} h k = (λ c. to ((conflict_iff_cases ok h k).0 c), from)
    where
      to : ConflictBy t a b → ByBranch t a b
      to (themselves x) = apart_by_branch h k x
      to (first_parent e c) = inl (inl (to_linked e c))
      to (second_parent e c) = inl (inr (to_linked e c))

      from : ByBranch t a b → Conflict t a b
      from (inl (inl l)) = (conflict_iff_cases ok h k).1 (first_parent l.is l.has)
      from (inl (inr l)) = (conflict_iff_cases ok h k).1 (second_parent l.is l.has)
      from (inr x) = apart_conflict h k (arms_apart x)
