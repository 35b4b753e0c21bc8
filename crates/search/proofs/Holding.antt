-- The theorems of the search, from the laws of After alone.
use Rattle.std.proofs.Common.{◌≡◌, ℕ, ◌-◌, ◌<◌, ◌≤◌, min, ◌⊎◌, ◌↔◌, List, length, replicate, Err, Result, refl, ap, inl, inr, arith}
use lib.ListN.{length-replicate}
use lib.Seq.{take-append_seam}
use Rattle.process.specs.Meaning.{Proc, Limits}
use Rattle.certificate.specs.Rows.{empty_row}
use Rattle.certificate.specs.declared.Row.{Row}
use Rattle.gate.specs.Follow.{Follow, AfterLaws, plain}
use Rattle.gate.specs.Theorems.{Included}
use Rattle.gate.proofs.Plain.{plain_laws}
use Rattle.gate.proofs.Soundness.{rows_sound}
use Rattle.search.specs.Engine.{Engine, Stage, ends_within, held, Ended}
use Rattle.search.specs.Rule.{search_for, searched}
use Rattle.search.specs.Search.{told, search_by, answer_of, rows_after, motions_after}
use Rattle.search.specs.Theorems.{Ends, ShowsMore, Refusals, Tells, Decided, Exactly, SearchHolds, LawsSuffice}
use Rattle.search.specs.declared.answer.Answer.{Answer}
use Rattle.search.proofs.Limits.{told_cases, read_off}
use Rattle.search.proofs.Telling.{within_says, within_passes, beyond_says}
use Rattle.search.proofs.Ending.{listing_ends}

-- THE REFUSALS, read off the end of the listing

module _ (E : Engine) (n m : ℕ) (s : Stage) (h : Ended s) (e : Ends E s) where
  abbrev N : ℕ
  N = min n 1024

  read : answer_of (search_by E n m) ≡ answer_of (told N m s)
  read = ap answer_of ((read_off E s h e).1 n m)

  too_many : (answer_of (told N m s) ≡ Err 41) ↔ (N < length (held s))
  too_many =
      told_cases N m s h (λ t o. (answer_of o ≡ Err 41) ↔ (N < length (held t)))
      (λ l. (λ x. l, λ y. refl))
      (λ rows l. (λ x. cc, λ y. absurd (omega arith)))
      (λ rows w l u. (λ x. cc, λ y. absurd (omega arith)))
      (λ rows w l u. (λ x. cc, λ y. absurd (omega arith)))

  too_long : (answer_of (told N m s) ≡ Err 42) ↔ ((length (held s) ≤ N) × ShowsMore m s)
  too_long =
      told_cases N m s h (λ t o. (answer_of o ≡ Err 42) ↔ ((length (held t) ≤ N) × ShowsMore m t))
      (λ l. (λ x. absurd (grind arith), λ y. absurd (omega (arith, y.0))))
      (λ rows l. (λ x. cc, λ y. absurd y.1))
      (λ rows w l u. (λ x. (l, u), λ y. refl))
      (λ rows w l u. (λ x. cc, λ y. absurd (omega (arith, y.1))))

  no_other : (k : ℕ) → answer_of (told N m s) ≡ Err k → (k ≡ 41) ⊎ (k ≡ 42)
  no_other k =
      told_cases N m s h (λ t o. answer_of o ≡ Err k → (k ≡ 41) ⊎ (k ≡ 42))
      (λ l x. inl cc) (λ rows l x. cc) (λ rows w l u x. inr cc) (λ rows w l u x. cc)

  refusals_at : Refusals E n m (answer_of (search_by E n m))
  refusals_at =
      rw read
      (record {
        end = s;
        ended = h;
        ends = e;
        only_end = (read_off E s h e).0;
        read_off = refl;
        too_many = too_many;
        too_long = too_long;
        no_other = no_other;
      })

-- WHAT AN OUTCOME SAYS, by the end that it is read off

module _ (F : Follow) (A : AfterLaws F) (plan permit : Proc) (L : Limits plan) (M : Limits permit) where
  -- an end of the listing
  the_end : (s : Stage) × Ended s × Ends (search_for F plan permit) s
  the_end = listing_ends F A plan permit L M

  refusals : (n m : ℕ) → Refusals (search_for F plan permit) n m (answer_of (searched F plan permit n m))
  refusals n m = refusals_at (search_for F plan permit) n m the_end.0 the_end.1 the_end.2

  told_of : (n m : ℕ) → searched F plan permit n m ≡ told (min n 1024) m the_end.0
  told_of n m = (read_off (search_for F plan permit) the_end.0 the_end.1 the_end.2).1 n m

  included : (rows : List Row) → Ends (search_for F plan permit) (ends_within rows) → Included plan permit
  included rows e = rows_sound F A plan permit L M rows (within_says F A plan permit L M rows e)

  tells : (n m : ℕ) → Tells F plan permit (answer_of (searched F plan permit n m)) (rows_after (searched F plan permit n m) n) (motions_after (searched F plan permit n m) m)
  tells n m =
      rw (told_of n m)
      (told_cases (min n 1024) m the_end.0 the_end.1 (λ s o. Ends (search_for F plan permit) s → Tells F plan permit (answer_of o) (rows_after o n) (motions_after o m))
      (λ l e x. absurd (omega arith))
      (λ rows l e.
      rw (take-append_seam rows (replicate (n - length rows) empty_row))
      (e, within_passes F A plan permit L M rows e (omega arith), included rows e))
      (λ rows w l u e x. (w, beyond_says F A plan permit L M rows w e, rw (length-replicate {A = ℕ} m 0) u))
      (λ rows w l u e. rw (take-append_seam w (replicate (m - length w) 0)) (beyond_says F A plan permit L M rows w e))
      the_end.2)

  decided : (n m : ℕ) → Decided plan permit (answer_of (searched F plan permit n m))
  decided n m =
      rw (told_of n m)
      (told_cases (min n 1024) m the_end.0 the_end.1 (λ s o. Ends (search_for F plan permit) s → Decided plan permit (answer_of o))
      (λ l e free. absurd (free (41, refl)))
      (λ rows l e free. (λ c. included rows e, λ i. (length rows, refl)))
      (λ rows w l u e free. absurd (free (42, refl)))
      (λ rows w l u e free.
      let S = beyond_says F A plan permit L M rows w e in
      (λ c. let z = c.1 in cc, λ i. absurd (S.not_permit (i w S.of_plan))))
      the_end.2)

pub laws_suffice : LawsSuffice
laws_suffice F A = record { refusals = refusals F A; tells = tells F A; decided = decided F A }

pub plain_holds : SearchHolds plain
plain_holds = laws_suffice plain plain_laws

-- what is exactly the search's says all of it
pub exactly_tells : (plan permit : Proc) → Limits plan → Limits permit → (n m : ℕ) (answer : Result Answer ℕ) (rows : List Row) (motions : List ℕ)
    → Exactly plain plan permit n m answer rows motions
    → record {
      exact : Exactly plain plan permit n m answer rows motions;
      refusals : Refusals (search_for plain plan permit) n m answer;
      decided : Decided plan permit answer;
      tells : Tells plain plan permit answer rows motions;
    }
exactly_tells plan permit L M n m answer rows motions X =
    record {
      exact = X;
      refusals = rw X.answer_is (plain_holds.refusals plan permit L M n m);
      decided = rw X.answer_is (plain_holds.decided plan permit L M n m);
      tells = rw (X.answer_is, X.rows_are, X.motions_are) (plain_holds.tells plan permit L M n m);
    }
