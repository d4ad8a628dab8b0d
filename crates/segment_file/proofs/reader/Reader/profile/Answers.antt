use Rattle.segment_file.specs.Files.{labels_fields, profile_fields, sample_fields}
use Rattle.segment_file.specs.ReadFields.{alone, any_count, kind_fields, kind_said, list_fields, time_field}
use Rattle.segment_file.specs.Reading.{Begins, Stopped}
use Rattle.segment_file.proofs.ReadAnswers.{exit}
use Rattle.segment_file.proofs.ReadProfiles.{profile_at_kind, profile_at_labels, profile_at_time, profile_at_values, profile_labels, profile_taken}
use Rattle.segment_file.proofs.reader.Reader.profile.Goals as goal

pub returns-in_err-labels : goal.returns-in_err-labels
returns-in_err-labels c =
    let from = c.args.self.now.cursor in
    exit c.from_residual.result c.in_err-labels.field-0.0 _ (Stopped (Begins labels_fields) from) (Stopped (Begins profile_fields) from) c.from_residual.ensures.1
    (profile_at_labels from) c.in_err-labels.ensures

pub returns-in_err-kind : goal.returns-in_err-kind
returns-in_err-kind c =
    let from = c.args.self.now.cursor in
    let second = c.labels.new.self.cursor in
    exit c.from_residual-in_err-kind.result c.in_err-kind.field-0.0 _ (Stopped (Begins kind_fields) second) (Stopped (Begins profile_fields) from)
    c.from_residual-in_err-kind.ensures.1 (λ fault s. profile_at_kind c.in_ok-labels.labels from second fault c.in_ok-labels.ensures s) c.in_err-kind.ensures

pub returns-in_err-time_ms : goal.returns-in_err-time_ms
returns-in_err-time_ms c =
    let from = c.args.self.now.cursor in
    let second = c.labels.new.self.cursor in
    let third = c.kind.new.self.cursor in
    exit c.from_residual-in_err-time_ms.result c.in_err-time_ms.field-0.0 _ (Stopped (Begins (alone time_field)) third) (Stopped (Begins profile_fields) from)
    c.from_residual-in_err-time_ms.ensures.1
    (λ fault s. profile_at_time c.in_ok-labels.labels (kind_said c.in_ok-kind.kind) from second third fault c.in_ok-labels.ensures c.in_ok-kind.ensures s) c.in_err-time_ms.ensures

pub returns-in_err-values : goal.returns-in_err-values
returns-in_err-values c =
    let from = c.args.self.now.cursor in
    let second = c.labels.new.self.cursor in
    let third = c.kind.new.self.cursor in
    let fourth = c.time.new.self.cursor in
    exit c.from_residual-in_err-values.result c.in_err-values.field-0.0 _ (Stopped (Begins (list_fields any_count sample_fields)) fourth) (Stopped (Begins profile_fields) from)
    c.from_residual-in_err-values.ensures.1
    (λ fault s. profile_at_values c.in_ok-labels.labels (kind_said c.in_ok-kind.kind) c.in_ok-time_ms.time_ms from second third fourth fault c.in_ok-labels.ensures c.in_ok-kind.ensures
    c.in_ok-time_ms.ensures s) c.in_err-values.ensures

pub returns : goal.returns
returns c =
    profile_taken c.in_ok-labels.labels (kind_said c.in_ok-kind.kind) c.in_ok-time_ms.time_ms c.in_ok-values.values c.args.self.now.cursor c.labels.new.self.cursor c.kind.new.self.cursor
    c.time.new.self.cursor c.samples.new.self.cursor c.in_ok-labels.ensures c.in_ok-kind.ensures c.in_ok-time_ms.ensures c.in_ok-values.ensures

pub invariant_of-result : goal.invariant_of-result
invariant_of-result c = record { labelled = profile_labels c.in_ok-labels.labels c.in_ok-labels.ensures.sound }
