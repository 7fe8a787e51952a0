pub mod ColoursText
pub mod ColoursTextLaws
