-- The calls that other languages have: functions of `dungdapple`, each by its own contract.
--   HostCall ps r Learnt   any call of a function with the parameters ps and the result r, as its contract, Learnt, lets it end
use Rattle.std.specs.Prelude.{ℕ, List}
use contract.Lifetimes.{Lfts}
use denote.Triple.Clauses.{AtExit}
use borrow.Fn.Kinds.{ParamKind, ResultKind, Out, Dens, res_t, ended_of}

pub record HostCall {n : ℕ} (ps : List (ParamKind n)) (r : ResultKind n) (Learnt : Out n ps r) : Type 1 where
  pub lifetimes : Lfts n
  pub given : Dens lifetimes ps
  pub answered : (res_t r lifetimes).Denot
  pub left : AtExit (ended_of n ps r) lifetimes
  pub learnt : Learnt lifetimes given answered left
