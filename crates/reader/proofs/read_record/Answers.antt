-- Field by field, as the definition reads them.
use Rattle.std.proofs.Common.{◌∙◌, ap, arith, length, length-drop}
use Rattle.encoding.specs.Bytes.{number_one, number_two, number_four}
use Rattle.reader.specs.Reading.{length_value, behind_within, stops_1, stops_2, stops_3, stops_4, stops_5, stops_6, goes_on}
use Rattle.reader.proofs.read_record.Goals as goal

pub returns-in_default : goal.returns-in_default
returns-in_default c = stops_1 _ c.in_default.ensures

pub returns-in_default-field : goal.returns-in_default-field
returns-in_default-field c =
    let radius = c.in-Some.ensures in
    stops_2 _ radius c.in_default-field.ensures

pub returns-in_default-field-2 : goal.returns-in_default-field-2
returns-in_default-field-2 c =
    let radius = c.in-Some.ensures in
    let inner = c.in-Some-field.ensures in
    stops_3 _ radius inner c.in_default-field-2.ensures

pub returns-in_default-field-3 : goal.returns-in_default-field-3
returns-in_default-field-3 c =
    let radius = c.in-Some.ensures in
    let inner = c.in-Some-field.ensures in
    let edge = c.in-Some-field-2.ensures in
    stops_4 _ radius inner edge c.in_default-field-3.ensures

pub returns-in_default-field-4 : goal.returns-in_default-field-4
returns-in_default-field-4 c =
    let radius = c.in-Some.ensures in
    let inner = c.in-Some-field.ensures in
    let edge = c.in-Some-field-2.ensures in
    let passes = c.in-Some-field-3.ensures in
    stops_5 _ radius inner edge passes c.in_default-field-4.ensures

pub returns-in_default-samples_field : goal.returns-in_default-samples_field
returns-in_default-samples_field c =
    let radius = c.in-Some.ensures in
    let inner = c.in-Some-field.ensures in
    let edge = c.in-Some-field-2.ensures in
    let passes = c.in-Some-field-3.ensures in
    let bound = c.in-Some-field-4.ensures in
    stops_6 _ radius inner edge passes bound c.in_default-samples_field.ensures

pub overflow_sub-result : goal.overflow_sub-result
overflow_sub-result c =
    let radius = c.in-Some.ensures in
    let inner = c.in-Some-field.ensures in
    let edge = c.in-Some-field-2.ensures in
    let passes = c.in-Some-field-3.ensures in
    let bound = c.in-Some-field-4.ensures in
    let samples = c.in-Some-samples_field.ensures in
    omega (arith, behind_within radius, behind_within inner, behind_within edge, behind_within passes, behind_within bound, ap length samples.1, length-drop 3 c.in-Some-field-4.rest.now)

pub returns : goal.returns
returns c =
    let radius = c.in-Some.ensures in
    let inner = c.in-Some-field.ensures in
    let edge = c.in-Some-field-2.ensures in
    let passes = c.in-Some-field-3.ensures in
    let bound = c.in-Some-field-4.ensures in
    let samples = c.in-Some-samples_field.ensures in
    let r = c.from_be_bytes.ensures ∙ number_two c.in-Some.radius.now (length_value radius) in
    let i = c.from_be_bytes-2.ensures ∙ number_one c.in-Some-field.inner.now (length_value inner) in
    let e = c.from_be_bytes-3.ensures ∙ number_one c.in-Some-field-2.edge.now (length_value edge) in
    let p = c.from_be_bytes-4.ensures ∙ number_one c.in-Some-field-3.passes.now (length_value passes) in
    let b = c.from_be_bytes-5.ensures ∙ number_four c.in-Some-field-4.bound.now (length_value bound) in
    rw (r, i, e, p, b) (goes_on _ radius inner edge passes bound samples.0 samples.1)
