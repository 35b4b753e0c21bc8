use Rattle.std.proofs.Common.{ℕ, ◌+◌, ◌≤◌, refl, ap, ◌∙◌, arith, rules, Err}
use Rattle.std.proofs.lemmas.Result.{err_from_is_err_and}
use Rattle.reader.proofs.Steps.{recap, site, headed, refused, of_end, of_do, of_tau, of_or, of_rec, of_go, no_motion, none, one, one_failed, two, Inside, closed, bounded}
use Rattle.formtable.specs.Kinds.{record_of}
use Rattle.reader.proofs.forms.+form.Goals as goal
use Rattle.reader.proofs.forms.+form.Goals.{in-End, in-Do+in_ok-motion-in-Do+in_ok-form-in-Do, in-Tau+in_ok-form-in-Tau, in-Or+in_ok-right-in-Or+in_ok-form-in-Or, in-Rec+in_ok-name-in-Rec+in_ok-form-in-Rec, in-Go+in_ok-target-in-Go}

pub returns-in_err-motion-in-Do-clause-reads : goal.returns-in_err-motion-in-Do-clause-reads
returns-in_err-motion-in-Do-clause-reads t c =
    let e = err_from_is_err_and c.from_residual-in_err-motion-in-Do.result c.from_residual-in_err-motion-in-Do.ensures.1 in
    let f = site c.args.cursor.now c.args.place c.args.records.now c.args.scope c.in_ok-shape.shape c.head.new.cursor.at in
    refused f c.in_ok-shape.ensures.within.0 c.in_ok-shape.ensures.is _ _ _ (e.1 ∙ ap Err e.2) (λ m h. no_motion f m c.in-Do.is c.head.ensures.text c.in_err-motion-in-Do.ensures.is)

pub returns-in_err-form-in-Do-clause-reads : goal.returns-in_err-form-in-Do-clause-reads
returns-in_err-form-in-Do-clause-reads t c =
    let e = err_from_is_err_and c.from_residual-in_err-form-in-Do.result c.from_residual-in_err-form-in-Do.ensures.1 in
    let f = site c.args.cursor.now c.args.place c.args.records.now c.args.scope c.in_ok-shape.shape c.head.new.cursor.at in
    refused f c.in_ok-shape.ensures.within.0 c.in_ok-shape.ensures.is _ _ _ (e.1 ∙ ap Err e.2)
    (λ m h. one_failed f m _ _ (of_do f m c.in-Do.is c.head.ensures.text c.in_ok-motion-in-Do.ensures.is) _ _ _
    (recap _ (c.args.place + 1) c.args.records.now _ _ _ (c.motion.ensures.text ∙ c.head.ensures.text) refl c.guarded.ensures.names c.guarded.ensures.guard c.form.ensures.reads m h) c.in_err-form-in-Do.was)

pub returns-clause-reads : goal.returns-clause-reads
returns-clause-reads t c =
    let f = site c.args.cursor.now c.args.place c.args.records.now c.args.scope c.in_ok-shape.shape c.head.new.cursor.at in
    let i : (m : ℕ) → 64 ≤ m + (c.args.place + 1) → Inside f m (record_of c.match-shape.said.0) c.match-shape.said.1 c.match-shape.cursor c.match-shape.records =
    λ m h. elim c.match-shape.branch [
      | in-End w ↦ rw (w.said-is, w.cursor-is, w.records-is) (none f m c.head.ensures.text (of_end f m w.in-End.is))
      | in-Do+in_ok-motion-in-Do+in_ok-form-in-Do w ↦
          let s = w.motion.ensures.text ∙ c.head.ensures.text in
          rw (w.said-is, w.cursor-is, w.records-is) (one f m _ _ (of_do f m w.in-Do.is c.head.ensures.text w.in_ok-motion-in-Do.ensures.is) _ _ _
          (recap _ (c.args.place + 1) c.args.records.now _ _ _ s refl w.guarded.ensures.names w.guarded.ensures.guard w.form.ensures.reads m h) w.in_ok-form-in-Do.was (w.form.ensures.text ∙ s))
      | in-Tau+in_ok-form-in-Tau w ↦
          rw (w.said-is, w.cursor-is, w.records-is) (one f m _ _ (of_tau f m w.in-Tau.is) _ _ _
          (recap _ (c.args.place + 1) c.args.records.now _ _ _ c.head.ensures.text refl refl refl w.form-in-Tau.ensures.reads m h) w.in_ok-form-in-Tau.was (w.form-in-Tau.ensures.text ∙ c.head.ensures.text))
      | in-Or+in_ok-right-in-Or+in_ok-form-in-Or w ↦
          let s = w.form-in-Or.ensures.text ∙ c.head.ensures.text in
          rw (w.said-is, w.cursor-is, w.records-is) (two f m (of_or f m w.in-Or.is) _ _ _
          (recap _ (c.args.place + 1) c.args.records.now _ _ _ c.head.ensures.text refl refl refl w.form-in-Or.ensures.reads m h) w.in_ok-right-in-Or.was _ _ _
          (recap _ _ w.form-in-Or.new.records _ _ _ s w.form-in-Or.auto.records refl refl w.form-in-Or-2.ensures.reads m (omega (arith, h, w.in_ok-right-in-Or.ensures.within.0))) w.in_ok-form-in-Or.was (w.form-in-Or-2.ensures.text ∙ s))
      | in-Rec+in_ok-name-in-Rec+in_ok-form-in-Rec w ↦
          let s = w.word.ensures.text ∙ c.head.ensures.text in
          rw (w.said-is, w.cursor-is, w.records-is) (one f m _ _ (of_rec f m w.in-Rec.is c.head.ensures.text w.in_ok-name-in-Rec.ensures.is) _ _ _
          (recap _ (c.args.place + 1) c.args.records.now _ _ _ s refl (w.inside.ensures.names ∙ w.binding-rec.ensures) w.inside.ensures.guard w.form-in-Rec.ensures.reads m h) w.in_ok-form-in-Rec.was (w.form-in-Rec.ensures.text ∙ s))
      | in-Go+in_ok-target-in-Go w ↦
          rw (w.said-is, w.cursor-is, w.records-is) (none f m (w.target.ensures.text ∙ c.head.ensures.text) (of_go f m w.in-Go.is c.head.ensures.text w.in_ok-target-in-Go.ensures.is))
    ] in
    rw c.from.ensures (headed f c.in_ok-shape.ensures.within.0 c.in_ok-shape.ensures.is _ _ _ (λ m h. closed f m _ _ (i m h) c.shut.ensures.is))

pub returns-clause-within : goal.returns-clause-within
returns-clause-within t c =
    let h = c.in_ok-shape.ensures.within in
    bounded _ _ c.shut.result c.shut.ensures.is
    (elim c.match-shape.branch [
      | in-End w ↦ rw w.said-is (omega (arith, h), omega (arith, h), omega (arith, h))
      | in-Do+in_ok-motion-in-Do+in_ok-form-in-Do w ↦ rw w.said-is (search rules)
      | in-Tau+in_ok-form-in-Tau w ↦ rw w.said-is (search rules)
      | in-Or+in_ok-right-in-Or+in_ok-form-in-Or w ↦ rw w.said-is (search rules)
      | in-Rec+in_ok-name-in-Rec+in_ok-form-in-Rec w ↦ rw w.said-is (search rules)
      | in-Go+in_ok-target-in-Go w ↦ rw w.said-is (omega (arith, h), omega (arith, h), omega (arith, h))
    ])
