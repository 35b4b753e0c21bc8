-- What the verdict of the gate says: the rows pass every test, or which test they fail first, and where.
use Rattle.std.proofs.Common.{◌≡◌, ℕ, Bool, true, false, List, Some, None, Option, sym, refl, ◌∙◌, subst}
use Rattle.std.specs.List.{list_any}
use Rattle.std.proofs.lemmas.Bool.{false_from_ne_true}
use Rattle.std.proofs.lemmas.Bool.Decides.{not_from_Decides}
use Rattle.process.specs.Meaning.{Proc, Limits}
use Rattle.certificate.specs.declared.Row.{Row}
use Rattle.gate.specs.Follow.{Follow, AfterLaws}
use Rattle.gate.specs.Gate.{Member, Verdict, accepted, refused, first_bad, sized, fits, starts, covered, gate}
use Rattle.gate.specs.Refusals.{RightCount, RowFits, AllFit, HasStart, RowAnswered, Refused, miscounted, unfit, startless, unanswered, RefusesExact, RefusalsTold}
use Rattle.gate.proofs.Scans.{Told, told, told_same}
use Rattle.gate.proofs.Deciding.{sized_decides, fits_decides, start_decides, covered_decides}

-- the verdict, by what each test came to: the first that fails decides
abbrev verdict : Bool → Option ℕ → Bool → Option ℕ → Verdict
verdict false b c d = refused 43 0
verdict true (Some i) c d = refused 44 i
verdict true None false d = refused 45 0
verdict true None true (Some i) = refused 46 i
verdict true None true None = accepted

-- the same as the gate comes to it
abbrev first_of : Bool → Option ℕ → Bool → Verdict
first_of a b c =
    elim a [
      | false ↦ refused 43 0
      | true ↦ elim b [ Some i ↦ refused 44 i | None ↦ elim c [ false ↦ refused 45 0 | true ↦ accepted ] ]
    ]

abbrev all_of : Bool → Option ℕ → Bool → Option ℕ → Verdict
all_of a b c d = elim (first_of a b c) [ refused n i ↦ refused n i | accepted ↦ elim d [ Some i ↦ refused 46 i | None ↦ accepted ] ]

by_verdict : (a : Bool) (b : Option ℕ) (c : Bool) (d : Option ℕ) → all_of a b c d ≡ verdict a b c d
by_verdict false b c d = refl
by_verdict true (Some i) c d = refl
by_verdict true None false d = refl
by_verdict true None true (Some i) = refl
by_verdict true None true None = refl

module _ (F : Follow) (A : AfterLaws F) (plan permit : Proc) (L : Limits plan) (M : Limits permit) (rows : List Row) where
  abbrev AllAnswered : Type 0
  AllAnswered = (r : Row) → Member r rows → RowAnswered F plan permit rows r

  -- what a verdict says of the rows
  abbrev pub Says : Verdict → Type 0
  Says accepted = RightCount rows × AllFit plan permit rows × HasStart F permit rows × AllAnswered
  Says (refused n i) = Refused F plan permit rows n i

  abbrev size : Bool
  size = sized rows

  abbrev unfit_at : Option ℕ
  unfit_at = first_bad (fits plan permit) rows

  abbrev start : Bool
  start = list_any (starts F permit) rows

  abbrev bare_at : Option ℕ
  bare_at = first_bad (covered F plan permit rows) rows

  fit_told : Told (RowFits plan permit) rows unfit_at
  fit_told = told (fits plan permit) (RowFits plan permit) (fits_decides plan permit) rows

  answers_told : Told (RowAnswered F plan permit rows) rows bare_at
  answers_told = told (covered F plan permit rows) (RowAnswered F plan permit rows) (covered_decides F plan permit L rows) rows

  says : (a : Bool) (b : Option ℕ) (c : Bool) (d : Option ℕ) → size ≡ a → unfit_at ≡ b → start ≡ c → bare_at ≡ d → Says (verdict a b c d)
  says false b c d p q r s = miscounted (not_from_Decides size (sized_decides rows) p)
  says true (Some i) c d p q r s = unfit ((sized_decides rows).0 p) (subst (Told (RowFits plan permit) rows) q fit_told)
  says true None false d p q r s =
      let all = subst (Told (RowFits plan permit) rows) q fit_told in
      startless ((sized_decides rows).0 p) all (not_from_Decides start (start_decides F A plan permit M rows all) r)
  says true None true (Some i) p q r s =
      let all = subst (Told (RowFits plan permit) rows) q fit_told in
      unanswered ((sized_decides rows).0 p) all ((start_decides F A plan permit M rows all).0 r)
      (subst (Told (RowAnswered F plan permit rows) rows) s answers_told)
  says true None true None p q r s =
      let all = subst (Told (RowFits plan permit) rows) q fit_told in
      ((sized_decides rows).0 p, all, (start_decides F A plan permit M rows all).0 r, subst (Told (RowAnswered F plan permit rows) rows) s answers_told)

  pub gate_says : Says (gate F plan permit rows)
  gate_says = subst Says (sym (by_verdict size unfit_at start bare_at)) (says size unfit_at start bare_at refl refl refl refl)

  -- the other way

  settled : {a : Bool} {b : Option ℕ} {c : Bool} {d : Option ℕ} → size ≡ a → unfit_at ≡ b → start ≡ c → bare_at ≡ d
      → gate F plan permit rows ≡ verdict a b c d
  settled p q r s = by_verdict size unfit_at start bare_at ∙ (λ i. verdict (p i) (q i) (r i) (s i))

  all_fit : AllFit plan permit rows → unfit_at ≡ None
  all_fit all = told_same (RowFits plan permit) rows unfit_at None fit_told all

  pub accepts : RightCount rows → AllFit plan permit rows → HasStart F permit rows → AllAnswered → gate F plan permit rows ≡ accepted
  accepts count all begins each =
      settled ((sized_decides rows).1 count) (all_fit all) ((start_decides F A plan permit M rows all).1 begins)
      (told_same (RowAnswered F plan permit rows) rows bare_at None answers_told each)

  pub refuses : {n i : ℕ} → Refused F plan permit rows n i → gate F plan permit rows ≡ refused n i
  refuses (miscounted wrong) = settled (false_from_ne_true size (λ e. wrong ((sized_decides rows).0 e))) refl refl refl
  refuses (unfit {i = i} count h) =
      settled ((sized_decides rows).1 count) (told_same (RowFits plan permit) rows unfit_at (Some i) fit_told h) refl refl
  refuses (startless count all none) =
      settled ((sized_decides rows).1 count) (all_fit all)
      (false_from_ne_true start (λ e. none ((start_decides F A plan permit M rows all).0 e))) refl
  refuses (unanswered {i = i} count all begins h) =
      settled ((sized_decides rows).1 count) (all_fit all) ((start_decides F A plan permit M rows all).1 begins)
      (told_same (RowAnswered F plan permit rows) rows bare_at (Some i) answers_told h)

pub refuses_exact : (F : Follow) → AfterLaws F → RefusesExact F
refuses_exact F A plan permit L M rows n i = (
  λ e. subst (Says F A plan permit L M rows) e (gate_says F A plan permit L M rows),
  λ h. refuses F A plan permit L M rows h,
)

pub refusals_told : RefusalsTold
refusals_told = refuses_exact
