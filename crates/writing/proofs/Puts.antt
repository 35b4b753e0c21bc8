-- One text put behind another.
use Rattle.std.proofs.Common.{◌≡◌, ℕ, ◌+◌, ◌<◌, ◌≤◌, List, [], ◌∷◌, ◌++◌, length, get_or, take, drop, Ok, Err, Result, sym, ap, ◌∙◌, arith}
use Rattle.std.specs.List.{flat_map}
use Rattle.std.specs.Result.{IsErrAnd}
use Rattle.std.proofs.lemmas.Result.{err_from_is_err_and}
use Rattle.std.proofs.lemmas.Grind.{flat_map-append}
use Rattle.std.proofs.lemmas.List.{append_assoc, append-nil, length-append, length-take-le, take-append-drop, take_at, take-take, drop-drop, take_more}
use Rattle.writing.specs.declared.fault.OutputFault.{OutputFault}
use Rattle.writing.specs.declared.output.Output.{Output}
use Rattle.writing.specs.Output.{Put, Writes}

-- one put, then another behind it
pub put_seq : (old mid new a b : List ℕ) (at k : ℕ) (r : Result ℕ OutputFault) → Put old at a mid (Ok k) → length mid ≡ length old → Put mid k b new r → Put old at (a ++ b) new r
put_seq old mid new a b at k (Ok n) (p0, p1, p2, p3) l (q0, q1, q2, q3) =
    let la = length-append a b in
    (omega arith, omega arith, q2 ∙ ap (λ (x : List ℕ). x ++ b) p2 ∙ append_assoc (take at old) a b, q3 ∙ behind)
  where
    behind : drop n mid ≡ drop n old
    behind =
        ap (λ (j : ℕ). drop j mid) q0
        ∙ sym (drop-drop (length b) k mid)
        ∙ ap (drop (length b)) p3
        ∙ drop-drop (length b) k old
        ∙ ap (λ (j : ℕ). drop j old) (sym q0)
put_seq old mid new a b at k (Err e) (p0, p1, p2, p3) l (q0, q1, q2) =
    let la = length-append a b in
    (q0, omega arith, sym (take-take at k new (omega arith)) ∙ ap (take at) (q2 ∙ p2) ∙ take_at (take at old) a at (length-take-le at old (omega arith)))

-- where there is no room for the front, there is none for the whole
pub put_fails : (old new a b : List ℕ) (at : ℕ) (e : OutputFault) → Put old at a new (Err e) → Put old at (a ++ b) new (Err e)
put_fails old new a b at e (p0, p1, p2) = let la = length-append a b in (p0, omega arith, p2)

-- one text written, then another behind it
pub writes_then : {old mid new : Output} {a b : List ℕ} {r : Result (Unit {0}) OutputFault} → Writes old a (Ok tt) mid → Writes mid b r new → Writes old (a ++ b) r new
writes_then {old} {mid} {new} {a} {b} {r} p q =
    record {
      same_list = q.same_list ∙ p.same_list;
      same_length = q.same_length ∙ p.same_length;
      onward = omega (arith, p.onward, q.onward);
      put = put_seq old.out.now mid.out.now new.out.now a b old.at mid.at _ p.put p.same_length q.put;
    }

-- where the front is refused, the whole is
pub writes_fail : {old new : Output} {a : List ℕ} {e : OutputFault} (b : List ℕ) → Writes old a (Err e) new → Writes old (a ++ b) (Err e) new
writes_fail {old} {new} {a} {e} b p =
    record { same_list = p.same_list; same_length = p.same_length; onward = p.onward; put = put_fails old.out.now new.out.now a b old.at e p.put }

-- a refusal that a `?` hands on
pub writes_exit : {old new : Output} {bs : List ℕ} {e : OutputFault} {r : Result (Unit {0}) OutputFault} → IsErrAnd r (λ y. y ≡ e) → Writes old bs (Err e) new → Writes old bs r new
writes_exit {r = r} h p = let q = err_from_is_err_and r h in rw (q.1, q.2) p

-- after a refusal the place may be set back as far as to where it was
pub writes_back : {old mid new : Output} {bs : List ℕ} {e : OutputFault} → Writes old bs (Err e) mid → new.out ≡ mid.out → old.at ≤ new.at → Writes old bs (Err e) new
writes_back {old} {mid} {new} {bs} {e} p q h =
    record { same_list = rw q p.same_list; same_length = rw q p.same_length; onward = h; put = rw q p.put }

module _ {X : Type 0} (f : X → List ℕ) (xs : List X) (i : ℕ) where
  -- the texts of the first, and that of the next behind them
  pub writes_next : (d : X) {old mid new : Output} {r : Result (Unit {0}) OutputFault} → i < length xs → Writes old (flat_map f (take i xs)) (Ok tt) mid → Writes mid (f (get_or xs i d)) r new
      → Writes old (flat_map f (take (i + 1) xs)) r new
  writes_next d {old} {mid} {new} {r} h p q =
      let more : flat_map f (take (i + 1) xs) ≡ flat_map f (take i xs) ++ f (get_or xs i d) =
      ap (flat_map f) (take_more xs i d h)
      ∙ flat_map-append f (take i xs) (get_or xs i d ∷ [])
      ∙ ap (λ (t : List ℕ). flat_map f (take i xs) ++ t) (append-nil (f (get_or xs i d))) in
      rw more (writes_then p q)

  -- where the first are refused, all are
  pub writes_stop : {old new : Output} {e : OutputFault} → Writes old (flat_map f (take i xs)) (Err e) new → Writes old (flat_map f xs) (Err e) new
  writes_stop {old} {new} {e} p =
      let split : flat_map f xs ≡ flat_map f (take i xs) ++ flat_map f (drop i xs) =
      ap (flat_map f) (sym (take-append-drop i xs)) ∙ flat_map-append f (take i xs) (drop i xs) in
      rw split (writes_fail (flat_map f (drop i xs)) p)
