-- Slips: a number is given once, and only the slip of the latest granted call is taken.
use Rattle.std.proofs.Common.{◌≡◌, ℕ, ◌+◌, ◌<◌, ◌≤◌, ◌↔◌, [], ◌∷◌, sym, refl, ◌∙◌, inl, inr, arith}
use Rattle.controller.specs.Histories.{Call, admit, start, release, done, failed, rest, Answer, granted, denied, event, History, releases}
use Rattle.controller.specs.Rules.{Awaited, Rule, release_granted, done_stale, done_granted, failed_stale, failed_granted, Lawful, more, IsGrant}
use Rattle.controller.specs.Whole.{Latest, Gave, SlipsOnce}
use Rattle.controller.proofs.Lawfuls.{last_rule}

-- the number of a granted release is one above those granted before
numbered : {h : History} {m n : ℕ} → Rule h (release m) (granted n) → n ≡ releases h + 1
numbered (release_granted e k t l) = refl

before : {h : History} {k : Call} {a : Answer} → Lawful (event k a ∷ h) → Lawful h
before (more L r) = L

awaited_latest : (h : History) → Lawful h → (k : ℕ) → Awaited h k → Latest h k
awaited_latest [] L k w = let waits = w.0 in cc
awaited_latest (event j (denied n i) ∷ h) (more L r) k w = awaited_latest h L k w
awaited_latest (event (admit plan permit rows) (granted n) ∷ h) (more L r) k w = let waits = w.0 in cc
awaited_latest (event start (granted n) ∷ h) (more L r) k w = let waits = w.0 in cc
awaited_latest (event (release m) (granted n) ∷ h) (more L r) k w = numbered r ∙ sym w.1
awaited_latest (event (done j) (granted n) ∷ h) (more L r) k w = let waits = w.0 in cc
awaited_latest (event (failed j) (granted n) ∷ h) (more L r) k w = let waits = w.0 in cc
awaited_latest (event rest (granted n) ∷ h) (more L r) k w = let waits = w.0 in cc

latest_awaited : (h : History) → Lawful h → (k : ℕ) → Latest h k → Awaited h k
latest_awaited [] L k l = absurd l
latest_awaited (event j (denied n i) ∷ h) (more L r) k l = latest_awaited h L k l
latest_awaited (event (admit plan permit rows) (granted n) ∷ h) (more L r) k l = absurd l
latest_awaited (event start (granted n) ∷ h) (more L r) k l = absurd l
latest_awaited (event (release m) (granted n) ∷ h) (more L r) k l = (refl, sym l ∙ numbered r)
latest_awaited (event (done j) (granted n) ∷ h) (more L r) k l = absurd l
latest_awaited (event (failed j) (granted n) ∷ h) (more L r) k l = absurd l
latest_awaited (event rest (granted n) ∷ h) (more L r) k l = absurd l

given_below : (h : History) → Lawful h → (k : ℕ) → Gave h k → k ≤ releases h
given_below [] L k g = absurd g
given_below (event j (denied n i) ∷ h) (more L r) k g = given_below h L k g
given_below (event (admit plan permit rows) (granted n) ∷ h) (more L r) k g = given_below h L k g
given_below (event start (granted n) ∷ h) (more L r) k g = given_below h L k g
given_below (event (release m) (granted n) ∷ h) (more L r) k (inl e) = let s = numbered r in omega arith
given_below (event (release m) (granted n) ∷ h) (more L r) k (inr g) = let l = given_below h L k g in omega arith
given_below (event (done j) (granted n) ∷ h) (more L r) k g = given_below h L k g
given_below (event (failed j) (granted n) ∷ h) (more L r) k g = given_below h L k g
given_below (event rest (granted n) ∷ h) (more L r) k g = given_below h L k g

done_iff : {h : History} {k : ℕ} {a : Answer} → Lawful h → Rule h (done k) a → IsGrant a ↔ Latest h k
done_iff {h} {k} L (done_stale n) = (λ g. absurd g, λ l. n (latest_awaited h L k l))
done_iff {h} {k} L (done_granted w) = (λ g. awaited_latest h L k w, λ l. tt)

failed_iff : {h : History} {k : ℕ} {a : Answer} → Lawful h → Rule h (failed k) a → IsGrant a ↔ Latest h k
failed_iff {h} {k} L (failed_stale n) = (λ g. absurd g, λ l. n (latest_awaited h L k l))
failed_iff {h} {k} L (failed_granted w) = (λ g. awaited_latest h L k w, λ l. tt)

above_given : {h : History} {m n : ℕ} → Lawful (event (release m) (granted n) ∷ h) → (k : ℕ) → Gave h k → k < n
above_given {h} (more L r) k g = let s = numbered r in let l = given_below h L k g in omega arith

pub slips_once : SlipsOnce
slips_once =
    record {
      done_latest = λ h k a L. done_iff (before L) (last_rule L);
      failed_latest = λ h k a L. failed_iff (before L) (last_rule L);
      new_number = λ h m n L. above_given L;
    }
