-- What times and dates are, in the words of a page's `contents`. They stand apart from the other values, so that a page
-- without them is checked without a calendar.
pub use Rattle.rasn_strings.specs.Values.{date_value, generalized_value, utc_value}
