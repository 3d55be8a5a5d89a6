-- Wrong ideas of A5: updates in conflict counted, a load counted, no source taken for a source. One table shuts all three out.
use Rattle.std.specs.Prelude.{None, Some}
use mathlib.Core.Path.{◌≡◌, refl}
use mathlib.Core.Bool.{not}
use mathlib.Core.List.{[], ◌∷◌}
use Prim.Native.Nat.{ℕ, ◌<◌}
use native.Mathlib.Omega.{arith}
use lib.Dec.{T, ltb}
use Rattle.events.specs.declared.Order.TheVariants.{Acq, Rel, Ar}
use Rattle.events.specs.declared.Value.TheVariants.{U, Known}
use Rattle.events.specs.declared.Event.TheVariants.{Init, Load, Store, Update}
use Rattle.laws.specs.Says.{any_below}
use Rattle.laws.proofs.Says.{says_lt, says_not}
use Rattle.findings.specs.declared.Finding.TheVariants.{A5}
use Rattle.model.specs.Table.{Table, listed, IsUpdate, Source, Read}
use Rattle.model.specs.Relations.{Conflict}
use Rattle.model.specs.WellFormed.{WellFormed}
use Rattle.model.specs.Findings.{Holds}
use Rattle.model.specs.Examples.{Example, Right, allowed}
use Rattle.model.proofs.Verdicts.{holds_not}
use Rattle.model.proofs.MirrorRows.{look}
use Rattle.model.proofs.Refusals.{well_formed?}
use Rattle.model.proofs.Mirror.{conflict_rows}
use Rattle.model.proofs.MirrorTells.{conflict_told}
use Rattle.model.proofs.MirrorReport.{mirrored}
use Rattle.model.proofs.Worked.{right}
use Rattle.model.proofs.WrongJudges.{line}

-- the definition of A5, over another idea of who takes a token, of which two took the same, and of conflict
pub record TookBy (Takes : ℕ → Type 0) (OneToken Cf : ℕ → ℕ → Type 0) (p q : ℕ) : Type 0 where
  pub in_order : p < q
  pub takes_p : Takes p
  pub takes_q : Takes q
  pub one_token : OneToken p q
  pub no_conflict : ¬ Cf p q

abbrev pub OneSource : Table → ℕ → ℕ → Type 0
OneSource t p q = (s : ℕ) × (Source t s p × Source t s q)

-- 0 Init; 1 store REL X=0 p0; 2 store REL Y=0 p1; 3 Init thread 1 p2; 4 store REL Y=1 p3; then two arms: 5 load ACQ Y 0 p2 s2;
-- 6 load ACQ Y 1 p2 s4; an update on each: 7 and 8 updates AR of X from 0 to 1, p5 and p6, both s1; 9 load ACQ X 0 p4 s1;
-- then two updates of Z without a source: 10 update AR from u to 1 p9; 11 Init thread 2 p2; 12 update AR from u to 1 p11: consistent.
abbrev pub tokens : Example
tokens = record {
  table =
      line 0 None None Init
      ∷ line 0 (Some 0) None (Store Rel 0 (Known 0))
      ∷ line 0 (Some 1) None (Store Rel 1 (Known 0))
      ∷ line 1 (Some 2) None Init
      ∷ line 1 (Some 3) None (Store Rel 1 (Known 1))
      ∷ line 0 (Some 2) (Some 2) (Load Acq 1 (Known 0))
      ∷ line 0 (Some 2) (Some 4) (Load Acq 1 (Known 1))
      ∷ line 0 (Some 5) (Some 1) (Update Ar 0 (Known 0) (Known 1))
      ∷ line 0 (Some 6) (Some 1) (Update Ar 0 (Known 0) (Known 1))
      ∷ line 1 (Some 4) (Some 1) (Load Acq 0 (Known 0))
      ∷ line 1 (Some 9) None (Update Ar 2 U (Known 1))
      ∷ line 2 (Some 2) None Init
      ∷ line 2 (Some 11) None (Update Ar 2 U (Known 1))
      ∷ [];
  report = allowed;
}

pub tokens_right : Right tokens
unfolding well_formed? mirrored any_below
tokens_right = right tokens tt refl refl

abbrev tokens_table : Table
tokens_table = listed tokens.table

-- no token is taken twice
pub tokens_taken_once : ¬ Holds tokens_table A5
tokens_taken_once = holds_not A5 (tokens_right.reports.least A5) refl

-- by the mirror: a and b are not in conflict
compatible : {t : Table} → WellFormed t → (a b : ℕ) → T (ltb a t.count) → T (ltb b t.count) → T (not (look (conflict_rows t) a b)) → ¬ Conflict t a b
compatible {t} ok a b h k n = (says_not ((conflict_told ok).each a b ((says_lt a t.count).to h) ((says_lt b t.count).to k))).to n

-- and yet, if updates in conflict counted, the two arms of the branch would take one
pub arms_would_take : TookBy (IsUpdate tokens_table) (OneSource tokens_table) (λ a b. ⊥) 7 8
arms_would_take = record {
  in_order = omega arith;
  takes_p = tt;
  takes_q = tt;
  one_token = (1, (record { reads = tt; is = refl }, record { reads = tt; is = refl }));
  no_conflict = λ c. c;
}

-- if loads did, an update and a load would
pub load_would_take : TookBy (Read tokens_table) (OneSource tokens_table) (Conflict tokens_table) 7 9
unfolding any_below
load_would_take = record {
  in_order = omega arith;
  takes_p = tt;
  takes_q = tt;
  one_token = (1, (record { reads = tt; is = refl }, record { reads = tt; is = refl }));
  no_conflict = compatible tokens_right.well_formed 7 9 tt tt tt;
}

-- and if no source were a source, two updates that have none
pub none_would_take : TookBy (IsUpdate tokens_table) (λ p q. (tokens_table.at p).source ≡ (tokens_table.at q).source) (Conflict tokens_table) 10 12
unfolding any_below
none_would_take = record {
  in_order = omega arith;
  takes_p = tt;
  takes_q = tt;
  one_token = refl;
  no_conflict = compatible tokens_right.well_formed 10 12 tt tt tt;
}
