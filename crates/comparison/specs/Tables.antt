-- Tables and certificates, as a line writes them.
use Rattle.std.specs.Prelude.{◌≡◌, ℕ, List, Result}
use Rattle.cases.specs.Raw.{ReadsTable, ReadsVetted, verdict_on, meaning_then}
use Rattle.cases.specs.Reading.{ReadsList, ReadsCertified}
use Rattle.cases.specs.Tables.{meaning_of}
use Rattle.cases.specs.declared.raw.RawTable.{RawTable}
use Rattle.cases.specs.declared.table.Table.{Table}
use Rattle.comparison.specs.declared.admissions.Admission.{Admission}

-- a table stands there with that verdict, after which t means what vetting leaves
abbrev pub VetsNext : List ℕ → Table → List ℕ → Result (Unit {0}) ℕ → Type 0
VetsNext old t new verdict =
    (raw : RawTable) × ReadsTable old raw new × (verdict_on raw ≡ verdict) × (meaning_of t ≡ meaning_then raw)

-- PLAN PERMIT CERTIFICATE
abbrev pub ReadsAdmission : List ℕ → Admission → List ℕ → Type 0
ReadsAdmission old x new =
    (mid : List ℕ) × (rest : List ℕ) × ReadsVetted old x.plan mid × ReadsVetted mid x.permit rest × ReadsList ReadsCertified rest x.rows.items new
