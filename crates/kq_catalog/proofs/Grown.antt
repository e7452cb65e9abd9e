-- Limits are told by their numbers.
use Rattle.std.proofs.Common.{◌≡◌, ◌≤◌, ◌^◌, ◌-◌, ℕ, List, ap, slice_index_or}
use native.Mathlib.Bridge.{le_prop}
use mathlib.Core.HLevel.{is_prop→PathP}
use Rattle.kq_catalog_journal.specs.declared.limits.Limits.{Limits}
use Rattle.kq_catalog.specs.Grown.{numbers_of}

nth : (n : ℕ) (a b : Limits) → numbers_of a ≡ numbers_of b → slice_index_or (numbers_of a) n 0 ≡ slice_index_or (numbers_of b) n 0
nth n a b e = ap (λ (ns : List ℕ). slice_index_or ns n 0) e

-- limits with the same numbers are the same
pub same_limits : (a b : Limits) → numbers_of a ≡ numbers_of b → a ≡ b
same_limits a b e =
    let tables : a.tables ≡ b.tables = nth 0 a b e in
    let columns : a.columns ≡ b.columns = nth 1 a b e in
    let views : a.views ≡ b.views = nth 2 a b e in
    let policies : a.policies ≡ b.policies = nth 3 a b e in
    let batch : a.batch ≡ b.batch = nth 4 a b e in
    let cascade : a.cascade ≡ b.cascade = nth 5 a b e in
    let commits : a.commits ≡ b.commits = nth 6 a b e in
    λ i. record {
      tables = tables i;
      columns = columns i;
      views = views i;
      policies = policies i;
      batch = batch i;
      cascade = cascade i;
      commits = commits i;
      few_tables = is_prop→PathP (λ j. tables j ≤ 1000) (λ j. le_prop) a.few_tables b.few_tables i;
      few_columns = is_prop→PathP (λ j. columns j ≤ 256) (λ j. le_prop) a.few_columns b.few_columns i;
      few_views = is_prop→PathP (λ j. views j ≤ 256) (λ j. le_prop) a.few_views b.few_views i;
      few_policies = is_prop→PathP (λ j. policies j ≤ 16) (λ j. le_prop) a.few_policies b.few_policies i;
      small_batch = is_prop→PathP (λ j. batch j ≤ 2 ^ 20) (λ j. le_prop) a.small_batch b.small_batch i;
      short_cascade = is_prop→PathP (λ j. cascade j ≤ 1024) (λ j. le_prop) a.short_cascade b.short_cascade i;
      few_commits = is_prop→PathP (λ j. commits j ≤ 2 ^ 32 - 1) (λ j. le_prop) a.few_commits b.few_commits i;
    }
