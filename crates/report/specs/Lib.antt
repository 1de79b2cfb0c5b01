-- `Pages`: bytes put into a buffer, as far as it has room. `Numbers`: a number in decimal and in hexadecimal digits. `Lines`: the lines that the
-- program prints, after document 01.
pub mod Pages
pub mod Numbers
pub mod Lines
