-- A call from a record that is known: what it makes, and the record then.
use Rattle.std.proofs.Common.{◌≡◌, ℕ, Some, None, Option, refl, subst₂}
use Rattle.controller.specs.Histories.{Call}
use Rattle.controller.specs.Record.{Record, answer, next}
use Rattle.task.specs.declared.step.Asked.{Asked}
use Rattle.task.specs.declared.step.Made.{Made}
use Rattle.task.specs.Steps.{Makes, HandsBack, slip_of, slip_by}
use Rattle.task.proofs.Replies.{reply_to, reply_known}

-- the call that a record makes of what is asked
abbrev pub made_of : Asked → Call → Record → Made
made_of q k c = record { asked = q; reply = reply_to k (answer c k) }

pub record Known (q : Asked) (k : Call) (c : Record) (m : Made) (d : Record) : Type 0 where
  pub step : m ≡ made_of q k c
  pub slip : slip_of m.reply ≡ slip_by k (answer c k)
  pub after : d ≡ next c k

known : {q : Asked} {k : Call} {c d : Record} {m : Made} → Makes q k c m d → Known q k c m d
known {q} {k} {c} {d} {m} h =
    let reply = reply_known k (answer c k) m.reply h.told h.slip in
    record { step = λ i. record { asked = h.asked i; reply = reply i }; slip = h.slip; after = h.after }

-- the call and the record told in another form
pub from_as : {q : Asked} {k l : Call} {c d e : Record} {m : Made} → Makes q k c m d → k ≡ l → c ≡ e → Known q l e m d
from_as {q} {k} {l} {c} {d} {e} {m} h u p = known (subst₂ (λ (j : Call) (x : Record). Makes q j x m d) u p h)

pub from : {q : Asked} {k : Call} {c d e : Record} {m : Made} → Makes q k c m d → c ≡ e → Known q k e m d
from {q} {k} {c} {d} {e} {m} h p = from_as h refl p

-- what is made of a slip of that number
abbrev pub back_of : (ℕ → Asked) → (ℕ → Call) → Option ℕ → Record → Option Made
back_of q k (Some n) c = Some (made_of (q n) (k n) c)
back_of q k None c = None

abbrev pub next_of : (ℕ → Call) → Option ℕ → Record → Record
next_of k (Some n) c = next c (k n)
next_of k None c = c

pub record KnownBack (q : ℕ → Asked) (k : ℕ → Call) (o : Option ℕ) (c : Record) (s : Option Made) (d : Record) : Type 0 where
  pub step : s ≡ back_of q k o c
  pub after : d ≡ next_of k o c

known_back : (q : ℕ → Asked) (k : ℕ → Call) (o : Option ℕ) (c : Record) (s : Option Made) (d : Record) → HandsBack q k o c s d → KnownBack q k o c s d
known_back q k (Some n) c (Some m) d h = let x = known h in record { step = λ i. Some (x.step i); after = x.after }
known_back q k (Some n) c None d h = absurd h
known_back q k None c s d h = record { step = h.0; after = h.1 }

-- the slip and the record told in another form
pub back_from : {q : ℕ → Asked} {k : ℕ → Call} {o o' : Option ℕ} {c d e : Record} {s : Option Made} → HandsBack q k o c s d → o ≡ o' → c ≡ e → KnownBack q k o' e s d
back_from {q} {k} {o} {o'} {c} {d} {e} {s} h u p =
    known_back q k o' e s d (subst₂ (λ (z : Option ℕ) (x : Record). HandsBack q k z x s d) u p h)
