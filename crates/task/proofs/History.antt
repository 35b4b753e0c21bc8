-- The steps of each run take a history that accounts for the record before to one that accounts for the record after.
use Rattle.std.proofs.Common.{◌≡◌, List, [], ◌∷◌, ◌++◌, Some, None, Option, refl, sym, subst, subst₂}
use Rattle.controller.specs.Accounts.{Accounts}
use Rattle.controller.specs.Histories.{Call, Answer, event}
use Rattle.controller.specs.Record.{Record, factory, answer, next}
use Rattle.controller.specs.Rules.{Bounded}
use Rattle.controller.proofs.Ties.{accounted, new_accounts}
use Rattle.task.specs.declared.step.Asked.{Asked}
use Rattle.task.specs.declared.step.Asked.TheVariants.{AdmitFirst, AdmitSecond, Start, Release, Done, Failed, Rest}
use Rattle.task.specs.declared.step.Made.{Made}
use Rattle.task.specs.Steps.{answer_of, call_of, Steps}
use Rattle.task.specs.Task.{first_run_steps, stale_slip_steps, second_run_steps, first_admission, second_admission, after_first, after_stale, after_second, history_of}
use Rattle.task.proofs.Computed.{permit_limits, first_limits, second_limits}

-- the call that was asked for
abbrev asked_for : Made → Call
asked_for m = call_of first_admission second_admission m.asked

-- the answers that steps tell, those that the record gives to their calls, and the record then
abbrev told : List (Option Made) → List Answer
told [] = []
told (Some m ∷ ss) = answer_of m.reply ∷ told ss
told (None ∷ ss) = told ss

abbrev answers : List (Option Made) → Record → List Answer
answers [] c = []
answers (Some m ∷ ss) c = answer c (asked_for m) ∷ answers ss (next c (asked_for m))
answers (None ∷ ss) c = answers ss c

abbrev played : List (Option Made) → Record → Record
played [] c = c
played (Some m ∷ ss) c = played ss (next c (asked_for m))
played (None ∷ ss) c = played ss c

limits : (q : Asked) → Bounded (call_of first_admission second_admission q)
limits AdmitFirst = (first_limits, permit_limits)
limits AdmitSecond = (second_limits, permit_limits)
limits Start = tt
limits (Release m) = tt
limits (Done k) = tt
limits (Failed k) = tt
limits Rest = tt

-- steps that tell what the record answers
counts : (ss : List (Option Made)) (c : Record) → told ss ≡ answers ss c → Steps first_admission second_admission c ss (played ss c)
counts [] c e h A = A
counts (Some m ∷ ss) c e h A =
    let k = asked_for m in
    let x = answer_of m.reply in
    counts ss (next c k) (cc) (event k x ∷ h) (accounted k (limits m.asked) c (next c k) x (cc) refl h A)
counts (None ∷ ss) c e h A = counts ss c e h A

-- and so do those written out
pub first_run_counts : Steps first_admission second_admission factory first_run_steps after_first
first_run_counts = counts first_run_steps factory refl

pub stale_slip_counts : Steps first_admission second_admission after_first stale_slip_steps after_stale
stale_slip_counts = counts stale_slip_steps after_first refl

pub second_run_counts : Steps first_admission second_admission after_stale second_run_steps after_second
second_run_counts = counts second_run_steps after_stale refl

-- a run that makes steps that count, between the same records
pub run_made : {xs ys : List (Option Made)} {c d e f : Record} → Steps first_admission second_admission c xs d → e ≡ c → ys ≡ xs → f ≡ d
    → record { steps : ys ≡ xs; after : f ≡ d; accounts : Steps first_admission second_admission e ys f }
run_made {xs} {ys} {c} {d} {e} {f} s p q r =
    record {
      steps = q;
      after = r;
      accounts =
          subst (λ (x : Record). Steps first_admission second_admission x ys f) (sym p)
          (subst₂ (λ (zs : List (Option Made)) (y : Record). Steps first_admission second_admission c zs y) (sym q) (sym r) s);
    }

-- and all of them, from the factory on
whole_accounts : Accounts (history_of (first_run_steps ++ stale_slip_steps ++ second_run_steps)) after_second
whole_accounts = counts (first_run_steps ++ stale_slip_steps ++ second_run_steps) factory refl [] (new_accounts factory refl)

-- and so do steps that come to just these
pub steps_account : (ss ts : List (Option Made)) (c : Record) → ss ≡ first_run_steps ++ stale_slip_steps → ts ≡ second_run_steps → c ≡ after_second
    → Accounts (history_of (ss ++ ts)) c
steps_account ss ts c p q e = subst₂ (λ (us : List (Option Made)) (x : Record). Accounts (history_of us) x) (sym (λ i. p i ++ q i)) (sym e) whole_accounts
