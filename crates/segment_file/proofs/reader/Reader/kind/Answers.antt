use Rattle.std.proofs.Common.{◌++◌, [], List, ℕ, refl}
use Rattle.segment_file.specs.Fields.{Field}
use Rattle.segment_file.specs.ReadFields.{alone, is_part, judged, kind_fields}
use Rattle.segment_file.specs.Reading.{Begins, Stopped}
use Rattle.segment_file.proofs.ReadAnswers.{exit}
use Rattle.segment_file.proofs.ReadLemmas.{took_both, took_nothing}
use Rattle.segment_file.proofs.ReadProfiles.{kind_at}
use Rattle.segment_file.proofs.reader.Reader.kind.Goals as goal

abbrev part : List ℕ → List Field
part text = alone (judged is_part) text

pub returns-in_err-name : goal.returns-in_err-name
returns-in_err-name c =
    let from = c.args.self.now.cursor in
    let took = took_nothing from in
    exit c.from_residual.result c.in_err-name.field-0.0 _ (Stopped (Begins (alone (judged is_part))) c.args.self.now.cursor) (Stopped (Begins kind_fields) from) c.from_residual.ensures.1
    (λ fault s. kind_at ([]) (λ text. record { name = text; sample_type = []; sample_unit = []; period_type = []; period_unit = [] }) (part [] ++ (part [] ++ (part [] ++ (part [])))) refl (λ text. refl) from c.args.self.now.cursor fault took s) c.in_err-name.ensures

pub returns-in_err-sample_type : goal.returns-in_err-sample_type
returns-in_err-sample_type c =
    let from = c.args.self.now.cursor in
    let took-1 = c.in_ok-name.ensures in
    let took = took-1 in
    exit c.from_residual-in_err-sample_type.result c.in_err-sample_type.field-0.0 _ (Stopped (Begins (alone (judged is_part))) c.part.new.self.cursor) (Stopped (Begins kind_fields) from) c.from_residual-in_err-sample_type.ensures.1
    (λ fault s. kind_at (part c.in_ok-name.name) (λ text. record { name = c.in_ok-name.name; sample_type = text; sample_unit = []; period_type = []; period_unit = [] }) (part [] ++ (part [] ++ (part []))) refl (λ text. refl) from c.part.new.self.cursor fault took s) c.in_err-sample_type.ensures

pub returns-in_err-sample_unit : goal.returns-in_err-sample_unit
returns-in_err-sample_unit c =
    let from = c.args.self.now.cursor in
    let took-1 = c.in_ok-name.ensures in
    let took-2 = took_both (part c.in_ok-name.name) (part c.in_ok-sample_type.sample_type) from c.part.new.self.cursor c.part-2.new.self.cursor took-1 c.in_ok-sample_type.ensures in
    let took = took-2 in
    exit c.from_residual-in_err-sample_unit.result c.in_err-sample_unit.field-0.0 _ (Stopped (Begins (alone (judged is_part))) c.part-2.new.self.cursor) (Stopped (Begins kind_fields) from) c.from_residual-in_err-sample_unit.ensures.1
    (λ fault s. kind_at (part c.in_ok-name.name ++ part c.in_ok-sample_type.sample_type) (λ text. record { name = c.in_ok-name.name; sample_type = c.in_ok-sample_type.sample_type; sample_unit = text; period_type = []; period_unit = [] }) (part [] ++ (part [])) refl (λ text. refl) from c.part-2.new.self.cursor fault took s) c.in_err-sample_unit.ensures

pub returns-in_err-period_type : goal.returns-in_err-period_type
returns-in_err-period_type c =
    let from = c.args.self.now.cursor in
    let took-1 = c.in_ok-name.ensures in
    let took-2 = took_both (part c.in_ok-name.name) (part c.in_ok-sample_type.sample_type) from c.part.new.self.cursor c.part-2.new.self.cursor took-1 c.in_ok-sample_type.ensures in
    let took-3 = took_both (part c.in_ok-name.name ++ part c.in_ok-sample_type.sample_type) (part c.in_ok-sample_unit.sample_unit) from c.part-2.new.self.cursor c.part-3.new.self.cursor took-2 c.in_ok-sample_unit.ensures in
    let took = took-3 in
    exit c.from_residual-in_err-period_type.result c.in_err-period_type.field-0.0 _ (Stopped (Begins (alone (judged is_part))) c.part-3.new.self.cursor) (Stopped (Begins kind_fields) from) c.from_residual-in_err-period_type.ensures.1
    (λ fault s. kind_at ((part c.in_ok-name.name ++ part c.in_ok-sample_type.sample_type) ++ part c.in_ok-sample_unit.sample_unit) (λ text. record { name = c.in_ok-name.name; sample_type = c.in_ok-sample_type.sample_type; sample_unit = c.in_ok-sample_unit.sample_unit; period_type = text; period_unit = [] }) (part []) refl (λ text. refl) from c.part-3.new.self.cursor fault took s) c.in_err-period_type.ensures

pub returns-in_err-period_unit : goal.returns-in_err-period_unit
returns-in_err-period_unit c =
    let from = c.args.self.now.cursor in
    let took-1 = c.in_ok-name.ensures in
    let took-2 = took_both (part c.in_ok-name.name) (part c.in_ok-sample_type.sample_type) from c.part.new.self.cursor c.part-2.new.self.cursor took-1 c.in_ok-sample_type.ensures in
    let took-3 = took_both (part c.in_ok-name.name ++ part c.in_ok-sample_type.sample_type) (part c.in_ok-sample_unit.sample_unit) from c.part-2.new.self.cursor c.part-3.new.self.cursor took-2 c.in_ok-sample_unit.ensures in
    let took-4 = took_both ((part c.in_ok-name.name ++ part c.in_ok-sample_type.sample_type) ++ part c.in_ok-sample_unit.sample_unit) (part c.in_ok-period_type.period_type) from c.part-3.new.self.cursor c.part-4.new.self.cursor took-3 c.in_ok-period_type.ensures in
    let took = took-4 in
    exit c.from_residual-in_err-period_unit.result c.in_err-period_unit.field-0.0 _ (Stopped (Begins (alone (judged is_part))) c.part-4.new.self.cursor) (Stopped (Begins kind_fields) from) c.from_residual-in_err-period_unit.ensures.1
    (λ fault s. kind_at (((part c.in_ok-name.name ++ part c.in_ok-sample_type.sample_type) ++ part c.in_ok-sample_unit.sample_unit) ++ part c.in_ok-period_type.period_type) (λ text. record { name = c.in_ok-name.name; sample_type = c.in_ok-sample_type.sample_type; sample_unit = c.in_ok-sample_unit.sample_unit; period_type = c.in_ok-period_type.period_type; period_unit = text }) [] refl (λ text. refl) from c.part-4.new.self.cursor fault took s) c.in_err-period_unit.ensures
