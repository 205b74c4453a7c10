mod Turns
mod FileTexts
mod SomeText
mod OneText
mod Beginnings
mod Putting
