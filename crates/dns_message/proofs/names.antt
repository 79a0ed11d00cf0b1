pub mod NameLaws
pub mod EndLaws
pub mod ShortcutLaws
pub mod Loops
pub mod SizeLaws
pub mod RunLaws
